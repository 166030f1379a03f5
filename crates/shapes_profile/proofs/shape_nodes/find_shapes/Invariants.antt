use Rattle.std.proofs.Common.{◌≡◌, ◌++◌, take}
use Rattle.std.specs.Prelude.{flat_map}
use Rattle.shapes_profile.specs.Shapes.{declared_subjects, shapes_of}
use Rattle.shapes_profile.proofs.shape_nodes.find_shapes.Given as goal

abbrev pub invariant-triples : goal.invariant-triples
invariant-triples l =
    l.terms ≡ declared_subjects l.declarations ++ flat_map (shapes_of l.declarations) (take l.triple-index l.triple-items)
