-- A text in a document behind which no character stands: as much of the document as is UTF-8 from a place on.
use Rattle.std.specs.Prelude.{◌≡◌, ℕ, ◌+◌, Bool, true, false, List, [], ◌++◌, length, encode_utf8_all}
use Rattle.std.specs.Str.{IsUtf8, StartsWithNoChar}
use Rattle.turtle_tokens.specs.Places.{Place, SkipsFilling}

-- these characters stand at a place, and then bytes that begin with no character
abbrev pub place_of : ℕ → List ℕ → List ℕ → Place
place_of at cs bad = record { at = at; bytes = encode_utf8_all cs ++ bad }

-- whether there are no such bytes
abbrev pub IsEnd : Bool → List ℕ → Type 0
IsEnd true bad = bad ≡ []
IsEnd false bad = bad ≡ [] → ⊥

-- wherever the characters stand: all filling at their front is skipped, and the rest is left
abbrev pub SkipsTo : Bool → List ℕ → List ℕ → Type 0
SkipsTo at_end cs rest =
    (at : ℕ) (bad : List ℕ) → StartsWithNoChar bad → IsEnd at_end bad
    → (front : List ℕ) × (cs ≡ front ++ rest)
    × SkipsFilling (place_of at cs bad) (place_of (at + length (encode_utf8_all front)) rest bad)

-- the text is the longest front of the bytes that is UTF-8, and whether it is all of them
pub record IsUtf8Front (bytes text : List ℕ) (at_end : Bool) : Type 0 where
  pub bad : List ℕ
  pub parts : bytes ≡ text ++ bad
  pub is_text : IsUtf8 text
  pub stops : StartsWithNoChar bad
  pub ends : IsEnd at_end bad
