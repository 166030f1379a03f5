use Rattle.std.proofs.Common.{◌++◌, ◌∙◌}
use Rattle.rdf_terms.specs.Vocab.Sh as sh
use Rattle.report_writer.specs.Report.{report_node, result_node, triple_of, node_triples, shape_triples}
use Rattle.report_writer.proofs.Reports.{cons_text, append_text, line_is, text_is, when_ok}
use Rattle.report_writer.proofs.writing.push_result.Goals as goal

pub returns-clause-text : goal.returns-clause-text
returns-clause-text c =
    let k = c.args.number in
    let r = c.args.row.now in
    when_ok c.push_shape.result
    (λ last. cons_text (triple_of report_node sh.result (result_node k)) (node_triples (result_node k) r ++ shape_triples (result_node k) r) _ _ _
    (line_is c.args.report.now report_node sh.result c.in_ok-copy.field-0 (result_node k) _ _ c.in_ok-push_triple.ensures c.requires (c.in_ok-copy.ensures ∙ c.in_ok-node.ensures))
    (append_text (node_triples (result_node k) r) (shape_triples (result_node k) r) _ _ _ (text_is (λ n. node_triples n r) c.in_ok-node.node (result_node k) _ _ c.in_ok-push_node.ensures c.in_ok-node.ensures)
    (text_is (λ n. shape_triples n r) c.in_ok-node.node (result_node k) _ _ last c.in_ok-node.ensures)))
    c.push_shape.ensures
