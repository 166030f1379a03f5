use Rattle.std.proofs.Common.{take}
use Rattle.clause_store.specs.Clauses.{has}
use Rattle.literal_signs.specs.Marked.{marked_set}
use Rattle.sat_core.specs.Scanned.{AreAssigned}
use Rattle.sat_core.proofs.choosing.first_free.Given as goal

abbrev pub invariant-loop-lit : goal.invariant-loop-lit
invariant-loop-lit l = AreAssigned (marked_set l.signs) (has (take l.lit-index l.clause))
