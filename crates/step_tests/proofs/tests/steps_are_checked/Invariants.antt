use Rattle.std.proofs.Common.{IsTrue}
use Rattle.clause_store.specs.Clauses.{are_within}
use Rattle.clause_store.specs.Stored.{stored}
use Rattle.step_tests.proofs.tests.steps_are_checked.Given as goal

abbrev pub invariant-loop-ids : goal.invariant-loop-ids
invariant-loop-ids g l = IsTrue (are_within l.marks (stored l.store))
