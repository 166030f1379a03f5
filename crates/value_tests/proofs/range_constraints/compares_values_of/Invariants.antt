use Rattle.std.proofs.Common.{ℕ, ◌<◌, get_or}
use Rattle.value_tests.specs.RangePlaces.{HasNoneAt}
use Rattle.value_tests.proofs.range_constraints.compares_values_of.Given as goal

abbrev pub invariant-places : goal.invariant-places
invariant-places l = (k : ℕ) → k < l.place-index → HasNoneAt l.shapes l.predicate (get_or l.place-items k 0)
