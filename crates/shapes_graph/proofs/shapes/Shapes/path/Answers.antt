use Rattle.std.proofs.Common.{◌≡◌, ℕ, ◌<◌, List, length, Some, slice_get, ap, sym, subst, ◌∙◌}
use Rattle.rdf_terms.specs.Graph.{Graph}
use Rattle.rdf_terms.proofs.Sets.{get_at}
use Rattle.shapes_profile.specs.Profile.{IsInProfile}
use Rattle.shapes_graph.specs.declared.paths.PathForm.{PathForm}
use Rattle.shapes_graph.specs.PathForms.{paths}
use Rattle.shapes_graph.specs.ShapeTables.{AreTables}
use Rattle.shapes_graph.proofs.PathRowLaws.{parts_within}
use Rattle.shapes_graph.proofs.shapes.Shapes.path.Goals as goal

pub returns-clause-parts : goal.returns-clause-parts
returns-clause-parts c =
    let s = c.args.self.now in
    let tables = c.self.inside.tables in
    let are = subst (λ (g : Graph). AreTables g tables) c.self.view_is c.self.invariant.1 in
    let same : c.as_slice.result.now ≡ paths s = c.as_slice.ensures ∙ are.paths in
    let within : c.args.path < length c.as_slice.result.now = subst (λ (n : ℕ). c.args.path < n) (sym (ap length same)) c.requires in
    let there = get_at c.as_slice.result.now c.args.path c.index-as_slice-path.result within c.index-as_slice-path.is in
    parts_within s (subst IsInProfile c.self.view_is c.self.invariant.0) c.args.path c.index-as_slice-path.result
    (subst (λ (fs : List PathForm). slice_get fs c.args.path ≡ Some c.index-as_slice-path.result) same there)
