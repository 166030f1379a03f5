use Rattle.std.proofs.Common.{◌∙◌, ◌++◌, ◌∷◌, [], ℕ, List, None, get_or, cond, subst, sym, ap, arith}
use Rattle.std.specs.Prelude.{is_some}
use Rattle.rdf_terms.specs.Graph.{Graph, triples, ArePlacesOf}
use Rattle.shapes_graph.proofs.PlaceLaws.{places_start, places_next, places_end}
use Rattle.shapes_graph.proofs.constraint_triples.places_of_shape.Goals as goal

pub places-init : goal.places-init
places-init c =
    let x = c.args.shape.now in
    let first = c.places_of-first.result.0 in
    let after = c.places_of-first.result.1 in
    let are = subst (λ (g : Graph). ArePlacesOf (triples g) x first after) c.graph.ensures c.places_of-first.ensures in
    c.new-places.ensures ∙ places_start c.args.shapes.now x first after are

pub places-preserved : goal.places-preserved
places-preserved c =
    let s = c.args.shapes.now in
    let x = c.args.shape.now in
    let cs = c.args.constraints.now in
    let i = c.places.place in
    let first = c.places_of-first.result.0 in
    let after = c.places_of-first.result.1 in
    let are = subst (λ (g : Graph). ArePlacesOf (triples g) x first after) c.graph.ensures c.places_of-first.ensures in
    c.in_ok-push_constraint_place.ensures
    ∙ ap (λ (ps : List ℕ). ps ++ cond (is_some (get_or cs i None)) (i ∷ []) []) c.places.invariant
    ∙ sym (places_next s x first after are cs i c.requires c.places.auto.place c.places-test.true)

pub returns : goal.returns
returns c =
    let x = c.args.shape.now in
    let first = c.places_of-first.result.0 in
    let after = c.places_of-first.result.1 in
    let are = subst (λ (g : Graph). ArePlacesOf (triples g) x first after) c.graph.ensures c.places_of-first.ensures in
    c.places.invariant ∙ places_end c.args.shapes.now x first after are c.places.place (omega (arith, c.places-test.false))
