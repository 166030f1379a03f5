use Rattle.std.proofs.Common.{◌≡◌, ℕ, ◌<◌, ◌≤◌, length, get_or}
use Rattle.path_eval.proofs.term_numbers.look_up.Given as goal

abbrev pub invariant-places : goal.invariant-places
invariant-places l = record {
  long : length l.places ≡ length l.initial.places;
  done : (k : ℕ) → k < l.place-index → get_or l.places k 0 ≡ get_or l.table (get_or l.initial.places k 0) 0;
  left : (k : ℕ) → l.place-index ≤ k → get_or l.places k 0 ≡ get_or l.initial.places k 0;
}
