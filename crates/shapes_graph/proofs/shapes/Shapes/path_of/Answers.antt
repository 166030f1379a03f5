use Rattle.std.proofs.Common.{ℕ, ◌<◌, List, Option, None, get_or, ap, sym, subst, ◌∙◌}
use Rattle.rdf_terms.specs.Graph.{Graph}
use Rattle.shapes_profile.specs.Profile.{IsInProfile}
use Rattle.shapes_graph.specs.ShapeTables.{AreTables}
use Rattle.shapes_graph.proofs.PathTableLaws.{read_path}
use Rattle.shapes_graph.proofs.PathRowLaws.{bounded}
use Rattle.shapes_graph.proofs.shapes.Shapes.path_of.Goals as goal

pub returns-clause-value : goal.returns-clause-value
returns-clause-value c =
    let s = c.args.self.now in
    let n = c.args.shape in
    let tables = c.self.inside.tables in
    let are = subst (λ (g : Graph). AreTables g tables) c.self.view_is c.self.invariant.1 in
    let within = subst (λ (m : ℕ). n < m) (sym are.size.path_numbers) c.requires in
    ap (λ (ps : List (Option ℕ)). get_or ps n None) c.as_slice.ensures ∙ read_path s tables.path_numbers n are.path within

pub returns-clause-within : goal.returns-clause-within
returns-clause-within c = bounded c.args.self.now (subst IsInProfile c.self.view_is c.self.invariant.0) c.args.shape _ (returns-clause-value c)
