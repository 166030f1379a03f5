use Rattle.std.proofs.Common.{◌≡◌, ◌<◌, ℕ, List, Some, slice_get}
use Rattle.clause_store.specs.declared.lit.Lit.{Lit}
use Rattle.clause_store.specs.Clauses.{has}
use Rattle.literal_signs.specs.Marked.{marked_set}
use Rattle.sat_core.specs.Scanned.{AreAssigned}
use Rattle.sat_core.proofs.solver.Solver.first_open.Given as goal

abbrev pub invariant-loop-i : goal.invariant-loop-i
invariant-loop-i g l = (k : ℕ) (c : List Lit) → k < l.i → slice_get (g.S.ClauseStore.clauses l.self-inside.store) k ≡ Some c → AreAssigned (marked_set l.self-inside.signs.items) (has c)
