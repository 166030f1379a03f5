use Rattle.std.proofs.Common.{option_map, refl, ◌∷◌, ◌++◌}
use Rattle.rdf_terms.specs.Vocab.Rdf as rdf
use Rattle.rdf_terms.specs.Vocab.Sh as sh
use Rattle.report_writer.specs.Report.{in_report, triple_of, optional_triple}
use Rattle.report_writer.proofs.Reports.{cons_text, append_text, line_is, when_ok}
use Rattle.report_writer.proofs.writing.push_node.Goals as goal

pub returns : goal.returns
returns c =
    let node = c.args.node.now in
    let r = c.args.row.now in
    let kind = triple_of node rdf.type_ sh.validation_result in
    let focus = triple_of node sh.focus_node (in_report r.focus) in
    let path = optional_triple node sh.result_path (option_map in_report r.path) in
    let value = optional_triple node sh.value (option_map in_report r.value) in
    when_ok c.push_optional-2.result
    (λ last. cons_text kind (focus ∷ path ++ value) _ _ _ (line_is node node rdf.type_ c.in_ok-kind.kind sh.validation_result _ _ c.in_ok-push_triple.ensures refl c.in_ok-kind.ensures) (cons_text focus (path ++ value) _ _ _ c.in_ok-push_foreign.ensures (append_text path value _ _ _ c.in_ok-push_optional.ensures last)))
    c.push_optional-2.ensures
