use Rattle.std.proofs.Common.{ℕ, ◌<◌, get_or, below_more, subst, arith}
use Rattle.std.proofs.lemmas.Bool.{false≢true}
use Rattle.rdf_terms.specs.Graph.{Graph, triples, ArePlacesOfObject}
use Rattle.value_tests.specs.RangePlaces.{HasNoneAt}
use Rattle.value_tests.proofs.RangeLaws.{none_left}
use Rattle.value_tests.proofs.range_constraints.compares_values_of.Goals as goal

pub places-preserved : goal.places-preserved
places-preserved c =
    below_more (λ (k : ℕ). HasNoneAt c.args.shapes.now c.args.predicate.now (get_or c.places_of_object-place-items.result.now k 0)) c.places.place-index
    c.places.invariant (c.subject_at_compares_values.ensures.none c.if-subject_at_compares_values.false)

pub returns : goal.returns
returns c =
    let s = c.args.shapes.now in
    let p = c.args.predicate.now in
    let places = c.places_of_object-place-items.result.now in (
      λ t. absurd (false≢true t),
      λ v.
          absurd
          (none_left s p c.triples.ensures.profile places (subst (λ (g : Graph). ArePlacesOfObject (triples g) p places) c.triples.ensures.graph c.places_of_object-place-items.ensures)
          (λ k l. let m : k < c.places.place-index = omega (arith, l, c.places-test.false) in c.places.invariant k m) v),
    )
