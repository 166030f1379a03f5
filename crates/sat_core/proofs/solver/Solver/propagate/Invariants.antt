use Rattle.std.proofs.Common.{◌-◌, length}
use Rattle.sat_core.specs.Solving.{HasGrown}
use Rattle.sat_core.proofs.solver.Solver.propagate.Given as goal

abbrev pub invariant-loop-i : goal.invariant-loop-i
invariant-loop-i g l = HasGrown l.fn.self l.self

abbrev pub decreases-loop-i : goal.decreases-loop-i
decreases-loop-i g l = l.self.room - length l.self.trail
