use Rattle.std.proofs.Common.{◌≡◌, ℕ, ◌<◌, List, Option, Some, slice_get, length, ap, sym, subst, ◌∙◌}
use Rattle.std.specs.Prelude.{option_and_then, option_copied}
use Rattle.rdf_terms.specs.Graph.{Graph}
use Rattle.rdf_terms.proofs.Sets.{get_at}
use Rattle.shapes_graph.specs.declared.constraints.Constraint.{Constraint}
use Rattle.shapes_graph.specs.Constraints.{constraint_at}
use Rattle.shapes_graph.specs.ShapeTables.{AreTables}
use Rattle.shapes_graph.proofs.NamedShapes.{copied_within}
use Rattle.shapes_graph.proofs.shapes.Shapes.constraint.Goals as goal

pub returns-clause-shapes : goal.returns-clause-shapes
returns-clause-shapes c =
    let s = c.args.self.now in
    let i = c.args.place in
    let tables = c.self.inside.tables in
    let own = c.index-as_slice-place.result in
    let are = subst (λ (g : Graph). AreTables g tables) c.self.view_is c.self.invariant.1 in
    let within : i < length c.as_slice.result.now = subst (λ (m : ℕ). i < m) (sym (ap length c.as_slice.ensures ∙ are.size.constraints)) c.requires in
    let there : slice_get c.as_slice.result.now i ≡ Some own = get_at c.as_slice.result.now i own within c.index-as_slice-place.is in
    let stated : slice_get tables.constraints i ≡ Some own = subst (λ (cs : List (Option Constraint)). slice_get cs i ≡ Some own) c.as_slice.ensures there in
    let value : option_copied c.as_ref.result ≡ constraint_at s i = c.as_ref.ensures.value ∙ sym (are.constraint i ∙ ap (option_and_then (λ (o : Option Constraint). o)) stated) in
    copied_within s i c.as_ref.result value
