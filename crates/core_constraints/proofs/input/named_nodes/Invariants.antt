use Rattle.core_constraints.proofs.FocusNumbers.{HasNamed}
use Rattle.core_constraints.proofs.input.named_nodes.Given as goal

abbrev pub invariant-shapes : goal.invariant-shapes
invariant-shapes l = HasNamed l.shapes l.shape l.named
