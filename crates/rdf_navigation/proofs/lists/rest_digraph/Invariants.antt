use Rattle.std.proofs.Common.{◌≡◌, length}
use Rattle.rdf_navigation.specs.CellKind.{is_cell}
use Rattle.rdf_navigation.specs.ListTable.{rests}
use Rattle.rdf_navigation.specs.Numbers.{IsNumbered}
use Rattle.rdf_navigation.proofs.lists.rest_digraph.Given as goal

abbrev pub invariant-nodes : goal.invariant-nodes
invariant-nodes l = record {
  len : length l.digraph ≡ l.node-index;
  numbered : IsNumbered (rests (is_cell l.kind) l.graph) l.nodes l.digraph;
}
