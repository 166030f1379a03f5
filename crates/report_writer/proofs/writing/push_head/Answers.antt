use Rattle.std.proofs.Common.{[], ◌∷◌}
use Rattle.rdf_terms.specs.Vocab.Rdf as rdf
use Rattle.rdf_terms.specs.Vocab.Sh as sh
use Rattle.report_writer.specs.Report.{report_node, boolean_literal, triple_of}
use Rattle.report_writer.proofs.Reports.{cons_text, one_text, line_is, when_ok}
use Rattle.report_writer.proofs.writing.push_head.Goals as goal

pub returns : goal.returns
returns c =
    let kind = triple_of report_node rdf.type_ sh.validation_report in
    let conforms = triple_of report_node sh.conforms (boolean_literal c.args.conforms) in
    when_ok c.push_triple-2.result
    (λ last. cons_text kind (conforms ∷ []) _ _ _
    (line_is c.args.report.now report_node rdf.type_ c.in_ok-kind.kind sh.validation_report _ _ c.in_ok-push_triple.ensures c.requires c.in_ok-kind.ensures)
    (one_text conforms _ _ (line_is c.args.report.now report_node sh.conforms c.in_ok-boolean.field-0 (boolean_literal c.args.conforms) _ _ last c.requires c.in_ok-boolean.ensures)))
    c.push_triple-2.ensures
