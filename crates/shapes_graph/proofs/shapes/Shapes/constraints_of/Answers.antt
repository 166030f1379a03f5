use Rattle.std.proofs.Common.{◌≡◌, ℕ, ◌<◌, All, List, length, Some, slice_get, ap, sym, subst, ◌∙◌}
use Rattle.rdf_terms.specs.Graph.{Graph, triples}
use Rattle.rdf_terms.proofs.Sets.{get_at}
use Rattle.shapes_graph.specs.Constraints.{constraints_of}
use Rattle.shapes_graph.specs.ShapeTables.{AreTables}
use Rattle.shapes_graph.proofs.ConstraintPlaces.{places_within}
use Rattle.shapes_graph.proofs.shapes.Shapes.constraints_of.Goals as goal

pub returns-clause-within : goal.returns-clause-within
returns-clause-within c =
    let s = c.args.self.now in
    let n = c.args.shape in
    let tables = c.self.inside.tables in
    let own = c.index-as_slice-shape.result in
    let are = subst (λ (g : Graph). AreTables g tables) c.self.view_is c.self.invariant.1 in
    let within : n < length c.as_slice.result.now = subst (λ (m : ℕ). n < m) (sym (ap length c.as_slice.ensures ∙ are.size.places)) c.requires in
    let there = get_at c.as_slice.result.now n own within c.index-as_slice-shape.is in
    let stated : constraints_of s n ≡ Some own = are.place n ∙ subst (λ (ps : List (List ℕ)). slice_get ps n ≡ Some own) c.as_slice.ensures there in
    subst (λ (ps : List ℕ). All (λ i. i < length (triples s)) ps) (sym c.as_slice-2.ensures) (places_within s n own stated)
