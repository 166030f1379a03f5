-- The second order that a graph keeps: the places of its triples, by their objects. Only private
-- functions are said by this.
use Rattle.std.specs.Prelude.{◌≡◌, ℕ, ◌+◌, ◌<◌, ◌↔◌, IsTrue, Option, None, Some, List, length, map, get_or, Contains}
use Rattle.std.specs.Prelude.{nat_le, if◌then◌else◌}
use Rattle.std.specs.declared.cmp.Ordering.{Ordering}
use Rattle.std.specs.declared.cmp.Ordering.TheVariants.{Less}
use Rattle.std.specs.Ordering.{ordering_then, nat_cmp}
use Rattle.std.specs.Option.{option_cmp}
use Rattle.rdf_terms.specs.Set.{is_rising}
use Rattle.rdf_terms.specs.Term.{term_cmp}
use Rattle.rdf_terms.specs.TermHash.{term_hash, hashed_cmp}
use Rattle.rdf_terms.specs.declared.graph.HashedPlace.{HashedPlace}
use Rattle.rdf_terms.specs.declared.term.Term.{Term}
use Rattle.rdf_terms.specs.Statement.{Statement}
use Rattle.rdf_terms.specs.Graph.{object_at}

-- by the object of the triple at the place, its hash first, and then by the place
abbrev pub place_cmp : List Statement → ℕ → ℕ → Ordering
place_cmp ts i j = ordering_then (option_cmp hashed_cmp (object_at ts i) (object_at ts j)) (nat_cmp i j)

-- how an object, where there is one, is ordered against one that is sought and has this hash
abbrev pub sought_cmp : ℕ → Term → Option Term → Ordering
sought_cmp hash sought None = Less
sought_cmp hash sought (Some own) = ordering_then (nat_cmp (term_hash own) hash) (term_cmp own sought)

-- each place of the list once, in that order
pub record IsObjectOrder (ts : List Statement) (places : List ℕ) : Type 0 where
  pub rises : IsTrue (is_rising (place_cmp ts) places)
  pub all : (i : ℕ) → Contains places i ↔ (i < length ts)

-- the places of the list, in order
pub record AreAllPlaces (ts : List Statement) (places : List ℕ) : Type 0 where
  pub long : length places ≡ length ts
  pub each : (k : ℕ) → k < length ts → get_or places k 0 ≡ k

abbrev pub object_hash : Option Term → ℕ
object_hash None = 0
object_hash (Some o) = term_hash o

-- the hash that is kept with a place is that of the object there
abbrev pub HasHash : List Statement → HashedPlace → Type 0
HasHash ts at = at.hash ≡ object_hash (object_at ts at.place)

abbrev pub places_in : List HashedPlace → List ℕ
places_in hashed = map (λ at. at.place) hashed

-- where a place comes to stand when a triple is inserted at another place
abbrev pub moved_place : ℕ → ℕ → ℕ
moved_place at place = if nat_le at place then place + 1 else place
