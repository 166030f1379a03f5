use Rattle.std.proofs.Common.{option_map, refl, ◌∷◌, ap, ◌∙◌}
use Rattle.rdf_terms.specs.declared.term.Term.TheVariants.{Iri}
use Rattle.rdf_terms.specs.Vocab.Sh as sh
use Rattle.report_writer.specs.Report.{in_report, string_literal, triple_of, optional_triple}
use Rattle.report_writer.proofs.Reports.{cons_text, line_is, when_ok}
use Rattle.report_writer.proofs.writing.push_shape.Goals as goal

pub returns : goal.returns
returns c =
    let node = c.args.node.now in
    let r = c.args.row.now in
    let severity = triple_of node sh.result_severity (in_report r.severity) in
    let component = triple_of node sh.source_constraint_component (Iri r.component) in
    let shape = triple_of node sh.source_shape (in_report r.shape) in
    let message = optional_triple node sh.result_message (option_map string_literal r.message) in
    when_ok c.push_message.result
    (λ last. cons_text severity (component ∷ shape ∷ message) _ _ _ c.in_ok-push_foreign.ensures (cons_text component (shape ∷ message) _ _ _ (line_is node node sh.source_constraint_component c.in_ok-component.component (Iri r.component) _ _ c.in_ok-push_triple.ensures refl (c.in_ok-component.ensures ∙ ap Iri c.as_str.ensures)) (cons_text shape message _ _ _ c.in_ok-push_foreign-2.ensures last)))
    c.push_message.ensures
