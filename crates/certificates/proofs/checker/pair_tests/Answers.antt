use Rattle.std.proofs.Common.{◌↔◌, IsTrue, subst}
use Rattle.certificates.specs.Checks.{IsBelowLast}
use Rattle.certificates.proofs.checker.pair_tests.Goals as goal

pub returns-clause-below : goal.returns-clause-below
returns-clause-below c = subst (λ p. IsTrue c.in_ok-below.below ↔ IsBelowLast c.args.chain.now p) c.as_slice-numbers.ensures c.in_ok-below.ensures
