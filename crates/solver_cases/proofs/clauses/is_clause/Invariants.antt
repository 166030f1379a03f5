use Rattle.std.proofs.Common.{IsTrue, take}
use Rattle.clause_store.specs.Clauses.{is_clause}
use Rattle.solver_cases.proofs.clauses.is_clause.Given as goal

abbrev pub invariant-loop-k : goal.invariant-loop-k
invariant-loop-k l = IsTrue (is_clause (take l.k l.lits))
