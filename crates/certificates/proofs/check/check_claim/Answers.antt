use Rattle.std.proofs.Common.{◌↔◌, IsTrue, subst}
use Rattle.proof_documents.specs.Document.{Document}
use Rattle.certificates.specs.Checker.{IsEnded}
use Rattle.certificates.proofs.Answered.{candidates_moved, claim_checked}
use Rattle.certificates.proofs.check.check_claim.Goals as goal

pub fits_claim-requires : goal.fits_claim-requires
fits_claim-requires g c = candidates_moved c.args.checker.now.rules c.problem.result.now c.args.checker.now.chain c.as_slice.result.now c.problem.ensures c.as_slice.ensures c.requires.candidates

pub returns-in-Ok : goal.returns-in-Ok
returns-in-Ok g c =
    claim_checked c.args.checker.now.rules c.problem.result.now c.args.text.now c.args.checker.now.chain c.as_slice.result.now c.args.checker.now.atoms.keys (g.S.ClauseStore.clauses c.args.checker.now.store) c.in-Ok.fits c.is_done.result c.claim_result.result c.problem.ensures
    c.as_slice.ensures c.in-Ok.ensures (subst (λ (d : Document). IsTrue c.is_done.result ↔ IsEnded d.proof.claim (g.S.ClauseStore.clauses c.args.checker.now.store)) c.text.view_is c.is_done.ensures) c.claim_result.ensures
