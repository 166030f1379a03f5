use Rattle.std.proofs.Common.{rules, ◌≡◌, ◌≢◌, not, position, ap, ◌∙◌}
use Rattle.rdf_terms.specs.Graph.{Graph, has}
use Rattle.proof_lines.specs.declared.proof.Claim.TheVariants.{Pair}
use Rattle.proof_documents.specs.Document.{Document}
use Rattle.certificates.proofs.Claimed.{addition_line, deletion_line, no_line_outside, no_claimed_line}
use Rattle.certificates.proofs.changes.first_change_outside.Goals as goal

pub returns-then-ne : goal.returns-then-ne
returns-then-ne c =
    let n : c.args.text.now.proof.claim ≢ Pair = search rules in
    no_claimed_line c.args.problem.now c.args.text.now n

pub returns-in-Some : goal.returns-in-Some
returns-in-Some c =
    let e : c.args.text.now.proof.claim ≡ Pair = search rules in
    addition_line c.args.problem.now c.args.text.now c.as_slice-adds.result.now c.in-Some.place e (c.as_slice-adds.ensures ∙ ap (λ (d : Document). d.adds) c.text.view_is)
    (c.in-Some.ensures ∙ ap (λ (g : Graph). position (λ t. not (has g t)) c.as_slice-adds.result.now) c.offers.ensures.value)

pub returns-in_err-place : goal.returns-in_err-place
returns-in_err-place c =
    let e : c.args.text.now.proof.claim ≡ Pair = search rules in
    no_line_outside c.args.problem.now c.args.text.now c.as_slice-adds.result.now c.as_slice.result.now c.from_residual.result e (c.as_slice-adds.ensures ∙ ap (λ (d : Document). d.adds) c.text.view_is)
    (c.as_slice.ensures ∙ ap (λ (d : Document). d.deletes) c.text.view_is) (c.in_default.ensures ∙ ap (λ (g : Graph). position (λ t. not (has g t)) c.as_slice-adds.result.now) c.offers.ensures.value)
    (c.in_err-place.ensures ∙ ap (λ (g : Graph). position (λ t. not (has g t)) c.as_slice.result.now) c.present.ensures) c.from_residual.ensures

pub returns : goal.returns
returns c =
    let e : c.args.text.now.proof.claim ≡ Pair = search rules in
    deletion_line c.args.problem.now c.args.text.now c.as_slice-adds.result.now c.as_slice.result.now c.in_ok-place.place e (c.as_slice-adds.ensures ∙ ap (λ (d : Document). d.adds) c.text.view_is)
    (c.as_slice.ensures ∙ ap (λ (d : Document). d.deletes) c.text.view_is) (c.in_default.ensures ∙ ap (λ (g : Graph). position (λ t. not (has g t)) c.as_slice-adds.result.now) c.offers.ensures.value)
    (c.in_ok-place.ensures ∙ ap (λ (g : Graph). position (λ t. not (has g t)) c.as_slice.result.now) c.present.ensures)
