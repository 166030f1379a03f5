use Rattle.std.proofs.Common.{◌≡◌, ◌++◌, take}
use Rattle.std.specs.Prelude.{map, flat_map}
use Rattle.rdf_terms.specs.Statement.{Statement}
use Rattle.shapes_profile.specs.References.{qualified_shapes}
use Rattle.shapes_profile.proofs.references.push_qualified_under.Given as goal

abbrev pub invariant-properties : goal.invariant-properties
invariant-properties l =
    l.terms ≡ l.fn.terms ++ flat_map (qualified_shapes l.graph) (map (λ (t : Statement). t.object) (take l.triple-index l.triple-items))
