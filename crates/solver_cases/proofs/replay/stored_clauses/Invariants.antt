use Rattle.std.proofs.Common.{IsTrue}
use Rattle.clause_store.specs.Clauses.{are_within}
use Rattle.clause_store.specs.Stored.{stored}
use Rattle.solver_cases.proofs.replay.stored_clauses.Given as goal

abbrev pub invariant-loop-clause : goal.invariant-loop-clause
invariant-loop-clause l = IsTrue (are_within l.vars (stored l.store))
