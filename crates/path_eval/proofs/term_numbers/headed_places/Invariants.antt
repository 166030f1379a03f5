use Rattle.std.proofs.Common.{◌≡◌, ℕ, ◌<◌, length, get_or}
use Rattle.path_eval.specs.TermNumbers.{places_in}
use Rattle.path_eval.proofs.term_numbers.headed_places.Given as goal

abbrev pub invariant-listing : goal.invariant-listing
invariant-listing l = record {
  long : length (places_in l.headed.items) ≡ l.place;
  each : (k : ℕ) → k < l.place → get_or (places_in l.headed.items) k 0 ≡ k;
}
