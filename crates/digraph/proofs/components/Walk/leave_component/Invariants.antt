use Rattle.std.proofs.Common.{vec_len}
use Rattle.digraph.proofs.components.Walk.leave_component.Given as goal

abbrev pub decreases-leaving : goal.decreases-leaving
decreases-leaving l = vec_len l.self.open
