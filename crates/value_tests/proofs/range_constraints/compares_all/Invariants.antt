use Rattle.std.proofs.Common.{◌≡◌, ℕ, ◌<◌, false}
use Rattle.value_tests.specs.RangePlaces.{compares_all_at}
use Rattle.value_tests.proofs.range_constraints.compares_all.Given as goal

abbrev pub invariant-places : goal.invariant-places
invariant-places l = (i : ℕ) → i < l.place → compares_all_at l.shapes i ≡ false
