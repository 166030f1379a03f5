use Rattle.std.proofs.Common.{ap, ◌∙◌}
use Rattle.proof_documents.specs.Document.{Document}
use Rattle.proof_documents.proofs.Fitting.{addition_line, deletion_line, no_line_outside}
use Rattle.proof_documents.proofs.apply.first_outside.Goals as goal

pub returns-in-Some : goal.returns-in-Some
returns-in-Some c = addition_line c.args.present.now c.args.text.now c.as_slice-adds.result.now c.in-Some.place (c.as_slice-adds.ensures ∙ ap (λ (d : Document). d.adds) c.text.view_is) c.in-Some.ensures

pub returns-in_err-place : goal.returns-in_err-place
returns-in_err-place c =
    no_line_outside c.args.present.now c.args.text.now c.as_slice-adds.result.now c.as_slice.result.now c.from_residual.result (c.as_slice-adds.ensures ∙ ap (λ (d : Document). d.adds) c.text.view_is)
    (c.as_slice.ensures ∙ ap (λ (d : Document). d.deletes) c.text.view_is) c.in_default.ensures c.in_err-place.ensures c.from_residual.ensures

pub returns : goal.returns
returns c =
    deletion_line c.args.present.now c.args.text.now c.as_slice-adds.result.now c.as_slice.result.now c.in_ok-place.place (c.as_slice-adds.ensures ∙ ap (λ (d : Document). d.adds) c.text.view_is)
    (c.as_slice.ensures ∙ ap (λ (d : Document). d.deletes) c.text.view_is) c.in_default.ensures c.in_ok-place.ensures
