use Rattle.std.proofs.Common.{◌≡◌, ◌++◌, take}
use Rattle.std.specs.Prelude.{map, flat_map}
use Rattle.rdf_terms.specs.Statement.{Statement}
use Rattle.shapes_profile.specs.Shapes.{members_or_none}
use Rattle.shapes_graph.proofs.kinds.push_ignored.Given as goal

abbrev pub invariant-lists : goal.invariant-lists
invariant-lists l =
    l.terms ≡ l.fn.terms ++ flat_map (members_or_none l.declarations) (map (λ (t : Statement). t.object) (take l.triple-index l.triple-items))
