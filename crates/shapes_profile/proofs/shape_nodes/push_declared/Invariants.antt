use Rattle.std.proofs.Common.{◌≡◌, ◌++◌, take}
use Rattle.std.specs.Prelude.{filter, map}
use Rattle.rdf_terms.specs.Statement.{Statement}
use Rattle.shapes_profile.specs.Shapes.{is_declared}
use Rattle.shapes_profile.proofs.shape_nodes.push_declared.Given as goal

abbrev pub invariant-subjects : goal.invariant-subjects
invariant-subjects l =
    l.terms ≡ l.fn.terms ++ filter (is_declared l.declarations) (map (λ (t : Statement). t.subject) (take l.triple-index l.triple-items))
