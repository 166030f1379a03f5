use Rattle.std.proofs.Common.{◌≡◌, take}
use Rattle.std.specs.List.{flat_map}
use Rattle.repair_problem.specs.Setting.{target_node_of}
use Rattle.repair_problem.proofs.targets.target_nodes.Given as goal

abbrev pub invariant-triples : goal.invariant-triples
invariant-triples l = l.nodes ≡ flat_map target_node_of (take l.triple-index l.triple-items)
