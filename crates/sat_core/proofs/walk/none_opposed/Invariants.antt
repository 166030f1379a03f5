use Rattle.std.proofs.Common.{◌≡◌, ◌<◌, ◌≤◌, ℕ, Some, slice_get, false}
use Rattle.clause_store.specs.Clauses.{opposite}
use Rattle.literal_signs.specs.Marked.{marked_set}
use Rattle.sat_core.specs.declared.trail.Entry.{Entry}
use Rattle.sat_core.proofs.walk.none_opposed.Given as goal

abbrev pub invariant-loop-k : goal.invariant-loop-k
invariant-loop-k l = (k : ℕ) (e : Entry) → l.from ≤ k → k < l.k → slice_get l.trail k ≡ Some e → marked_set l.signs (opposite e.lit) ≡ false
