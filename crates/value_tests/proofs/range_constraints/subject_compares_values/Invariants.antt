use Rattle.std.proofs.Common.{◌≡◌, ℕ, ◌<◌, ◌≤◌, false}
use Rattle.value_tests.specs.RangePlaces.{compares_values_at}
use Rattle.value_tests.proofs.range_constraints.subject_compares_values.Given as goal

abbrev pub invariant-places : goal.invariant-places
invariant-places l = (i : ℕ) → l.first ≤ i → i < l.place → compares_values_at l.shapes l.predicate i ≡ false
