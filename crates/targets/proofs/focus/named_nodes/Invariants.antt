use Rattle.std.proofs.Common.{◌≡◌, take, flat_map}
use Rattle.targets.specs.Selection.{named_nodes}
use Rattle.targets.proofs.focus.named_nodes.Given as goal

abbrev pub invariant-targets : goal.invariant-targets
invariant-targets l = l.terms ≡ flat_map named_nodes (take l.target-index l.targets)
