use Rattle.std.proofs.Common.{take}
use Rattle.core_constraints.proofs.OpenTriples.{AreClosed}
use Rattle.core_constraints.proofs.value_nodes.is_any_open.Given as goal

abbrev pub invariant-values : goal.invariant-values
invariant-values l = AreClosed l.allowed l.input.graph.graph l.input.graph.nodes (take l.value-index l.values)
