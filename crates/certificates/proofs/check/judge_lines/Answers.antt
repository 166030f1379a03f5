use Rattle.std.proofs.Common.{ap, ◌∙◌}
use Rattle.proof_documents.specs.Document.{Document}
use Rattle.atom_numbers.specs.Numbers.{lines_of}
use Rattle.certificates.proofs.Advanced.{lines_verdict, lines_rejected}
use Rattle.certificates.proofs.check.judge_lines.Goals as goal

pub returns-in-Ok : goal.returns-in-Ok
returns-in-Ok g c =
    lines_verdict c.args.checker.now.rules c.check_lines.new.checker.rules c.args.text.now c.as_slice.result.now (lines_of c.check_lines.new.checker.chain c.check_lines.new.checker.atoms.keys (g.S.ClauseStore.clauses c.check_lines.new.checker.store)) c.check_claim.result c.in-Ok.ensures.same (c.as_slice.ensures ∙ ap (λ (d : Document). d.proof.lines) c.text.view_is) c.requires.there
    c.in-Ok.ensures.leads c.check_claim.ensures

pub returns-in-Err : goal.returns-in-Err
returns-in-Err g c =
    lines_rejected c.args.checker.now.rules c.args.text.now c.as_slice.result.now c.first_proof_line.result c.in-Err.refusal (c.as_slice.ensures ∙ ap (λ (d : Document). d.proof.lines) c.text.view_is) c.requires.there c.first_proof_line.ensures.value c.in-Err.ensures.err
