use Rattle.std.proofs.Common.{◌≡◌, take}
use Rattle.std.specs.Prelude.{flat_map}
use Rattle.shapes_profile.specs.References.{qualified_shapes_under}
use Rattle.shapes_profile.proofs.references.qualified_beside.Given as goal

abbrev pub invariant-parents : goal.invariant-parents
invariant-parents l = l.terms ≡ flat_map (qualified_shapes_under l.graph) (take l.parent-index l.parent-items)
