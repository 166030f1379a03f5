use Rattle.std.proofs.Common.{IsTrue}
use Rattle.clause_store.specs.Clauses.{are_within}
use Rattle.clause_store.specs.Stored.{stored}
use Rattle.solver_cases.proofs.replay.replay.Given as goal

abbrev pub invariant-loop-step : goal.invariant-loop-step
invariant-loop-step l = IsTrue (are_within l.marks (stored l.store))
