use Rattle.std.proofs.Common.{rules, ◌≢◌}
use Rattle.proof_lines.specs.declared.proof.Claim.TheVariants.{Spent}
use Rattle.certificates.proofs.Answered.{ended_iff}
use Rattle.certificates.proofs.check.is_done.Goals as goal

pub returns-else-eq : goal.returns-else-eq
returns-else-eq g c =
    let n : c.args.claim ≢ Spent = search rules in
    ended_iff c.args.claim (g.S.ClauseStore.clauses c.args.store.now) c.is_refuted.result n c.is_refuted.ensures
