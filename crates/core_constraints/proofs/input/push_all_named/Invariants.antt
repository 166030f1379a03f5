use Rattle.std.proofs.Common.{◌≡◌, ◌++◌, take, flat_map}
use Rattle.targets.specs.Selection.{named_nodes}
use Rattle.core_constraints.proofs.input.push_all_named.Given as goal

abbrev pub invariant-targets : goal.invariant-targets
invariant-targets l = l.terms ≡ l.initial.terms ++ flat_map named_nodes (take l.target-index l.targets)
