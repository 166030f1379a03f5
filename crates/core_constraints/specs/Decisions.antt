-- Answers to questions, and counts. Private functions cite it.
use Rattle.std.specs.Prelude.{ℕ, ◌+◌, Bool, MatchBool}
use Rattle.std.specs.declared.cmp.Ordering.{Ordering}
use Rattle.shapes_profile.specs.Logic.{AtLeast}

-- the answer b is right
abbrev pub Says : Bool → Type 0 → Type 0
Says b P = MatchBool b P (¬ P)

-- n things have P, and not n + 1
pub record Exactly {K : Type 0} (R : K → K → Ordering) (P : K → Type 0) (n : ℕ) : Type 0 where
  pub least : AtLeast R P n
  pub most : ¬ (AtLeast R P (n + 1))
