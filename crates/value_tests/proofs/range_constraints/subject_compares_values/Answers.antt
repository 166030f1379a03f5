use Rattle.std.proofs.Common.{◌≡◌, ℕ, ◌≤◌, false, below_more, sym, ◌∙◌}
use Rattle.value_tests.specs.RangePlaces.{compares_values_at}
use Rattle.value_tests.proofs.RangeLaws.{values_from}
use Rattle.value_tests.proofs.range_constraints.subject_compares_values.Goals as goal

pub returns-then-compares_values_at-clause-found : goal.returns-then-compares_values_at-clause-found
returns-then-compares_values_at-clause-found c =
    λ t. values_from c.args.shapes.now c.args.predicate.now c.places.place (sym c.compares_values_at.ensures ∙ c.if-compares_values_at.true)

pub places-preserved : goal.places-preserved
places-preserved c =
    λ i low lt.
    below_more (λ (k : ℕ). c.places_of-first.result.0 ≤ k → compares_values_at c.args.shapes.now c.args.predicate.now k ≡ false) c.places.place
    (λ k l m. c.places.invariant k m l) (λ m. sym c.compares_values_at.ensures ∙ c.if-compares_values_at.false) i lt low
