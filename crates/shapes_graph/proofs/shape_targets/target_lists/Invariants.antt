use Rattle.std.proofs.Common.{◌≡◌, take}
use Rattle.std.specs.Prelude.{map}
use Rattle.shapes_graph.specs.Targets.{targets}
use Rattle.shapes_graph.proofs.shape_targets.target_lists.Given as goal

abbrev pub invariant-shapes : goal.invariant-shapes
invariant-shapes l = l.lists ≡ map (targets l.shapes) (take l.shape-index l.shape-items)
