use Rattle.std.proofs.Common.{◌≡◌, length}
use Rattle.rdf_navigation.specs.Numbers.{IsNumbered}
use Rattle.shapes_profile.specs.Shapes.{shape_nodes}
use Rattle.shapes_profile.specs.References.{shape_references}
use Rattle.shapes_profile.proofs.ranks.reference_digraph.Given as goal

abbrev pub invariant-shapes : goal.invariant-shapes
invariant-shapes l = record {
  len : length l.digraph ≡ l.shape-index;
  numbered : IsNumbered (shape_references l.shapes) (shape_nodes l.shapes) l.digraph;
}
