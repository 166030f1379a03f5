use Rattle.std.proofs.Common.{◌≡◌}
use Rattle.sat_core.specs.Solving.{HasEmpty}
use Rattle.solver_cases.proofs.answer.add_all.Given as goal

abbrev pub invariant-loop-clause : goal.invariant-loop-clause
invariant-loop-clause l =
    record {
      filled : ¬ (HasEmpty l.solver.clauses);
      log : l.solver.log ≡ l.fn.solver.log;
    }
