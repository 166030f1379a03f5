-- Things that stand under names: only what stands under one name changes.
use Rattle.std.specs.Prelude.{◌≡◌, ◌≢◌, ℕ, List}

pub record ChangesOnly {A : Type 0} (old new : List ℕ → A) (name : List ℕ) (now : A) : Type 0 where
  pub here : new name ≡ now
  pub others : (other : List ℕ) → other ≢ name → new other ≡ old other
