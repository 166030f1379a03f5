-- The terms of a list by their places among the distinct ones. Private functions cite it.
use Rattle.std.specs.Prelude.{◌≡◌, ℕ, ◌<◌, ◌↔◌, List, map, length, Contains, Some, slice_get, slice_index}
use Rattle.std.specs.Borrow.{Bor}
use Rattle.rdf_terms.specs.declared.term.Term.{Term}
use Rattle.rdf_terms.specs.Statement.{Statement}
use Rattle.path_eval.specs.declared.term_numbers.HeadedPlace.{HeadedPlace}

-- the terms that are referred to
abbrev pub terms_in : List (Bor Term) → List Term
terms_in list = map (λ t. t.now) list

abbrev pub subjects_of : List Statement → List Term
subjects_of ts = map (λ t. t.subject) ts

abbrev pub objects_of : List Statement → List Term
objects_of ts = map (λ t. t.object) ts

abbrev pub places_in : List HeadedPlace → List ℕ
places_in headed = map (λ at. at.place) headed

-- exactly the numbers below n stand in the list
abbrev pub ArePlaces : ℕ → List ℕ → Type 0
ArePlaces n places = (p : ℕ) → Contains places p ↔ (p < n)

-- the numbers below n, in order
pub record AreAllPlaces (n : ℕ) (places : List ℕ) : Type 0 where
  pub long : length places ≡ n
  pub each : (k : ℕ) → k < n → slice_index places k ≡ k

-- each term of the list stands in the other list at its rank
pub record AreRanked (ts others : List Term) (ranks : List ℕ) : Type 0 where
  pub long : length ranks ≡ length ts
  pub each : (k : ℕ) (t : Term) → slice_get ts k ≡ Some t → slice_get others (slice_index ranks k) ≡ Some t
