use Rattle.std.proofs.Common.{◌≡◌, length}
use Rattle.rdf_navigation.specs.Numbers.{IsNumbered}
use Rattle.property_paths.specs.Paths.{path_parts}
use Rattle.property_paths.proofs.path_depths.part_digraph.Given as goal

abbrev pub invariant-nodes : goal.invariant-nodes
invariant-nodes l = record {
  len : length l.digraph ≡ l.node-index;
  numbered : IsNumbered (path_parts l.lists) l.nodes l.digraph;
}
