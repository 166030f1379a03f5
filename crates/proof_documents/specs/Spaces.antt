-- Parts of a line and the spaces between them. Private functions alone cite this module.
use Rattle.std.specs.Prelude.{◌≡◌, ◌≢◌, ℕ, List, [], ◌∷◌, ◌++◌}
use Rattle.std.specs.List.{All}

-- there is no space within
abbrev pub IsUnspaced : List ℕ → Type 0
IsUnspaced text = All (λ b. b ≢ 32) text

-- nothing, or a space and more
abbrev pub IsSpaced : List ℕ → Type 0
IsSpaced [] = Unit {0}
IsSpaced (b ∷ bs) = b ≡ 32

-- a text begins with this part, and this stands behind it
pub record IsFirstPart (text part rest : List ℕ) : Type 0 where
  pub parts : text ≡ part ++ rest
  pub plain : IsUnspaced part
  pub ends : IsSpaced rest
