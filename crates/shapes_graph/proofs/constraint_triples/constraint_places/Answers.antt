use Rattle.std.proofs.Common.{ℕ, List, map, length, ap, ◌∙◌, take_all}
use Rattle.std.proofs.lemmas.List.{length-map}
use Rattle.shapes_profile.specs.Shapes.{shape_terms}
use Rattle.rdf_terms.specs.declared.term.Term.{Term}
use Rattle.shapes_graph.proofs.PlaceLaws.{places_in, places_at}
use Rattle.shapes_graph.proofs.constraint_triples.constraint_places.Goals as goal

pub returns-clause-at : goal.returns-clause-at
returns-clause-at c =
    let s = c.args.shapes.now in
    places_at s c.shapes.lists
    (c.shapes.invariant
    ∙ ap (λ (xs : List Term). map (places_in s) xs) (take_all c.shapes.shape-index c.as_slice-shape-items.result.now c.shapes-test.false ∙ c.as_slice-shape-items.ensures))

pub returns-clause-size : goal.returns-clause-size
returns-clause-size c =
    let s = c.args.shapes.now in
    ap (λ (ps : List (List ℕ)). length ps)
    (c.shapes.invariant
    ∙ ap (λ (xs : List Term). map (places_in s) xs) (take_all c.shapes.shape-index c.as_slice-shape-items.result.now c.shapes-test.false ∙ c.as_slice-shape-items.ensures))
    ∙ length-map (shape_terms s) (places_in s)
