use Rattle.std.proofs.Common.{◌≡◌, ℕ, ◌<◌, length, get_or, All}
use Rattle.rdf_terms.specs.ObjectOrder.{HasHash, places_in}
use Rattle.rdf_terms.proofs.graph.hashed_places.Given as goal

abbrev pub invariant-listing : goal.invariant-listing
invariant-listing l = record {
  long : length (places_in l.hashed.items) ≡ l.place;
  each : (k : ℕ) → k < l.place → get_or (places_in l.hashed.items) k 0 ≡ k;
  hashes : All (HasHash l.triples) l.hashed.items;
}
