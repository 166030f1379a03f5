use Rattle.std.proofs.Common.{◌≡◌, length}
use Rattle.sat_core.specs.Solving.{Extends, HasEmpty}
use Rattle.sat_core.proofs.solver.Solver.solve.Given as goal

abbrev pub invariant-loop-step : goal.invariant-loop-step
invariant-loop-step g l =
    record {
      extends : Extends l.fn.self l.self;
      full : ¬ (HasEmpty l.self.clauses);
      logged : length l.self.log ≡ l.step;
    }
