-- Chains of resolution over clauses of literals (after Robinson, A Machine-Oriented Logic Based on the Resolution
-- Principle, 1965). A clause is meant as the set of the literals of its list.
use Rattle.std.specs.Prelude.{◌≡◌, ◌≢◌, ◌⊎◌, ◌↔◌, ℕ, List, [], ◌∷◌, Some, slice_get, Contains}
use Rattle.repair_problem.specs.declared.atom.Literal.{Literal}
use Rattle.count_encode.specs.PartTruth.{opposite}

-- the literal is in the first clause, and its opposite in the second
abbrev pub Clash : List Literal → List Literal → Literal → Type 0
Clash c d l = Contains c l × Contains d (opposite l)

-- exactly one atom stands in opposite signs in the two, and the resolvent has their other literals
pub record IsResolvent (c d resolvent : List Literal) : Type 0 where
  pub pivot : Literal
  pub clash : Clash c d pivot
  pub only : (l : Literal) → Clash c d l → l ≡ pivot
  pub exact : (l : Literal) → Contains resolvent l ↔ ((Contains c l ⊎ Contains d l) × (l.atom ≢ pivot.atom))

-- the same literals
abbrev pub AreSame : List Literal → List Literal → Type 0
AreSame c d = (l : Literal) → Contains c l ↔ Contains d l

-- the clause with the clauses of these numbers, one after another, gives the last
abbrev pub ChainsFrom : List (List Literal) → List Literal → List ℕ → List Literal → Type 0
ChainsFrom clauses c [] last = AreSame c last
ChainsFrom clauses c (id ∷ ids) last =
    (d : List Literal) × (slice_get clauses id ≡ Some d) × (r : List Literal) × IsResolvent c d r
    × ChainsFrom clauses r ids last

-- two or more clauses, of these numbers, give the clause
abbrev pub IsChained : List (List Literal) → List ℕ → List Literal → Type 0
IsChained clauses (first ∷ second ∷ ids) last =
    (c : List Literal) × (slice_get clauses first ≡ Some c) × ChainsFrom clauses c (second ∷ ids) last
IsChained clauses _ last = ⊥
