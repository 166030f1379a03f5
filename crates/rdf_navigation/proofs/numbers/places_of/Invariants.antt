use Rattle.std.proofs.Common.{◌≡◌, ℕ, ◌<◌, length, map, take, Contains}
use Rattle.rdf_terms.specs.Nodes.{terms}
use Rattle.rdf_navigation.specs.Numbers.{term_at}
use Rattle.rdf_navigation.proofs.numbers.places_of.Given as goal

abbrev pub invariant-terms : goal.invariant-terms
invariant-terms l = record {
  places : map (term_at l.nodes) l.places.items ≡ take l.term-index l.sought;
  within : (i : ℕ) → Contains l.places.items i → i < length (terms l.nodes);
}
