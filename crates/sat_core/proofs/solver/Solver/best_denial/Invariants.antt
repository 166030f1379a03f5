use Rattle.std.proofs.Common.{◌≡◌, false, IsTrue, IfSome}
use Rattle.clause_store.specs.Clauses.{mentions}
use Rattle.sat_core.specs.Solving.{assigned, is_known}
use Rattle.sat_core.proofs.solver.Solver.best_denial.Given as goal

abbrev pub invariant-loop-var : goal.invariant-loop-var
invariant-loop-var g l =
    record {
      known : IfSome l.best (λ b. IsTrue (is_known l.self.clauses b.var));
      free : IfSome l.best (λ b. mentions (assigned l.self) b.var ≡ false);
    }
