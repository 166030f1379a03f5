-- The visits of a search. Private functions cite it.
use Rattle.std.specs.Prelude.{◌≡◌, ◌<◌, ◌↔◌, ◌⊎◌, ℕ, List, map, length, slice_get, Contains}
use Rattle.rdf_terms.specs.Nodes.{Nodes, terms}
use Rattle.rdf_navigation.specs.Numbers.{term_at}
use Rattle.digraph.specs.Walk.{IsWalk}
use Rattle.path_eval.specs.declared.visits.Visit.{Visit}
use Rattle.path_eval.specs.Automaton.{Position}

abbrev pub position : Nodes → Visit → Position
position n v = (v.state, term_at n v.node)

abbrev pub positions : Nodes → List Visit → List Position
positions n vs = map (position n) vs

-- a list to which the visits with P were appended, as far as they weren't there
pub record Adds (old new : List Visit) (P : Visit → Type 0) : Type 0 where
  pub kept : (i : ℕ) → i < length old → slice_get new i ≡ slice_get old i
  pub exact : (v : Visit) → Contains new v ↔ (Contains old v ⊎ P v)

-- the visits are of states below the count and of numbers of terms
abbrev pub AreVisits : ℕ → Nodes → List Visit → Type 0
AreVisits count n vs = (v : Visit) → Contains vs v → (v.state < count) × (v.node < length (terms n))

-- to the old visits come those that follow right after one
pub record Follows (T : Position → Position → Type 0) (count : ℕ) (n : Nodes) (visit : Visit) (old new : List Visit)
    : Type 0 where
  pub kept : (i : ℕ) → i < length old → slice_get new i ≡ slice_get old i
  pub within : AreVisits count n old → AreVisits count n new
  pub exact : (y : Position) → Contains (positions n new) y ↔ (Contains (positions n old) y ⊎ T (position n visit) y)

-- the positions at which a search begins
abbrev pub IsStart : Nodes → ℕ → List ℕ → Position → Type 0
IsStart n entry starts x = (entry ≡ x.0) × Contains (map (term_at n) starts) x.1

-- the visits are of exactly the positions to which walks lead from the starts
pub record AreSearched (T : Position → Position → Type 0) (count : ℕ) (n : Nodes) (entry : ℕ) (starts : List ℕ)
    (visits : List Visit) : Type 0 where
  pub within : AreVisits count n visits
  pub exact : (y : Position) → Contains (positions n visits) y
      ↔ ((x : Position) × (entry < count) × IsStart n entry starts x × ((w : List Position) × IsWalk T w x y))
