-- Which changes explain and which of them are minimal, by their candidates, as it is said of pairs; and that the two
-- are the same.
use Rattle.std.specs.Prelude.{◌≡◌, ◌<◌, ◌↔◌, ℕ, List, length, All, Contains}
use Rattle.std.specs.List.Sorted.{IsStrictlyIncreasing}
use Rattle.rdf_terms.specs.Graph.{Graph}
use Rattle.repair_problem.specs.Repair.{Within, Explains, Minimal, NoneExplains}
use Rattle.repair_problem.specs.Setting.{Setting, IsEdit}
use Rattle.repair_problem.specs.Candidates.{candidates, additions, deletions, edited_by}

-- each number is of a candidate
abbrev pub AreCandidates : Setting → List ℕ → Type 0
AreCandidates s change = All (λ t. t < length (candidates s)) change

-- it consists of candidates, and the edited graph conforms; Conforming says which graphs do
pub record ChangeExplains (Conforming : Graph → Type 0) (s : Setting) (change : List ℕ) : Type 0 where
  pub within : AreCandidates s change
  pub conforms : Conforming (edited_by s change)

-- the first has no candidate that the second hasn't, and the second has one more
pub record ChangeBelow (less change : List ℕ) : Type 0 where
  pub within : (t : ℕ) → Contains less t → Contains change t
  pub differs : ¬ ((t : ℕ) → Contains change t → Contains less t)

-- it explains, and nothing below it does
pub record ChangeMinimal (Conforming : Graph → Type 0) (s : Setting) (change : List ℕ) : Type 0 where
  pub explains : ChangeExplains Conforming s change
  pub least : (less : List ℕ) → ChangeBelow less change → ¬ (ChangeExplains Conforming s less)

-- no change explains
abbrev pub NoChangeExplains : (Graph → Type 0) → Setting → Type 0
NoChangeExplains Conforming s = (change : List ℕ) → ¬ (ChangeExplains Conforming s change)

-- the change of a pair: its candidates, ascending
pub record IsChangeOf (s : Setting) (adds deletes : Graph) (change : List ℕ) : Type 0 where
  pub within : AreCandidates s change
  pub rises : IsStrictlyIncreasing change
  pub added : additions s change ≡ adds
  pub deleted : deletions s change ≡ deletes

-- each pair is that of a change, the edited graphs are those of changes, and of changes and of their pairs the same is
-- true
pub record ChangesArePairs (Conforming : Graph → Type 0) (s : Setting) : Type 0 where
  pub change : (adds deletes : Graph) → Within adds s.offers → Within deletes s.present
      → (change : List ℕ) × IsChangeOf s adds deletes change
  pub edits : (g : Graph) → IsEdit s g ↔ ((change : List ℕ) × AreCandidates s change × (edited_by s change ≡ g))
  pub explains : (change : List ℕ) → AreCandidates s change
      → ChangeExplains Conforming s change
      ↔ Explains Conforming s.present s.offers (additions s change) (deletions s change)
  pub minimal : (change : List ℕ) → AreCandidates s change
      → ChangeMinimal Conforming s change
      ↔ Minimal Conforming s.present s.offers (additions s change) (deletions s change)
  pub none : NoChangeExplains Conforming s ↔ NoneExplains Conforming s.present s.offers
