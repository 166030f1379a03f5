use Rattle.std.proofs.Common.{rules, ◌≡◌, ◌↔◌, IfOk, IsTrue, sym, subst}
use Rattle.proof_lines.specs.declared.proof.Claim.{Claim}
use Rattle.proof_lines.specs.declared.proof.Claim.TheVariants.{Pair}
use Rattle.certificates.specs.Checks.{FitsClaim}
use Rattle.certificates.proofs.check.fits_claim.Goals as goal

pub returns-in-Pair : goal.returns-in-Pair
returns-in-Pair c =
    let e : c.args.text.now.proof.claim ≡ Pair = search rules in
    subst (λ (k : Claim). IfOk c.fits_pair.result (λ b. IsTrue b ↔ FitsClaim c.args.problem.now c.args.text.now k c.args.chain.now)) (sym e) c.fits_pair.ensures
