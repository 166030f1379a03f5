use Rattle.std.proofs.Common.{◌-◌, length}
use Rattle.sat_core.specs.Solving.{KeepsAllButTrail}
use Rattle.sat_core.proofs.solver.Solver.search.Given as goal

abbrev pub invariant-loop-conflict : goal.invariant-loop-conflict
invariant-loop-conflict g l = KeepsAllButTrail l.fn.self l.self

abbrev pub decreases-loop-conflict : goal.decreases-loop-conflict
decreases-loop-conflict g l = l.self.room - length l.self.trail
