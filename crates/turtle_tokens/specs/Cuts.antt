-- What the code's tokens say over bytes.
use Rattle.std.specs.Prelude.{◌≡◌, ℕ, ◌+◌, ◌<◌, Bool, Option, Some, None, List, [], ◌++◌, length, map}
use Rattle.std.specs.Borrow.{Bor}
use Rattle.std.specs.Str.{chars, StartsWithNoChar}
use Rattle.turtle_tokens.specs.Places.{PlacedToken, NextToken, NoToken, AreTokens}
use Rattle.turtle_tokens.specs.Fronts.{place_of, IsEnd}
use Rattle.turtle_tokens.specs.declared.statement.Token.{Token}

abbrev pub placed : Token → PlacedToken
placed t = record { at = t.at; kind = t.kind; text = chars t.text.now }

-- the next token of a text at a place, and the rest, whatever stands behind the text
abbrev pub IsTokenAt : ℕ → List ℕ → Option (Token × Bor (List ℕ)) → Type 0
IsTokenAt at text None = (bad : List ℕ) → StartsWithNoChar bad → NoToken (place_of at (chars text) bad)
IsTokenAt at text (Some x) =
    (text ≡ x.0.text.now ++ x.1.now)
    × (0 < length x.0.text.now)
    × ((bad : List ℕ) → StartsWithNoChar bad
    → NextToken (place_of at (chars text) bad) (placed x.0)
    (place_of (at + length x.0.text.now) (chars x.1.now) bad))

-- the tokens of the statement at the front of a text at a place, and the place and the text of the next statement,
-- whatever stands behind the text
abbrev pub AreTokensOf : Bool → ℕ → List ℕ → List Token → ℕ → List ℕ → Type 0
AreTokensOf at_end at text tokens next_at rest =
    (bad : List ℕ) → StartsWithNoChar bad → IsEnd at_end bad
    → AreTokens [] (place_of at (chars text) bad) (map placed tokens) (place_of next_at (chars rest) bad)
