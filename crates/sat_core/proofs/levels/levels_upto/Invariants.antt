use Rattle.std.proofs.Common.{◌≡◌, ◌<◌, ◌≤◌, ℕ, Some, slice_get}
use Rattle.sat_core.proofs.levels.levels_upto.Given as goal

abbrev pub invariant-loop-n : goal.invariant-loop-n
invariant-loop-n l = (j k : ℕ) → j < l.n → slice_get l.starts j ≡ Some k → k ≤ l.place
