-- Tokens, filling and the tokens of a statement over the bytes of a document, with places.
use Rattle.std.specs.Prelude.{◌≡◌, ℕ, ◌+◌, ◌≤◌, Bool, true, false, ◌&&◌, ◌||◌, nat_le, List, [], ◌∷◌, ◌++◌, length}
use Rattle.std.specs.Prelude.{codes, encode_utf8_all, ◌⊎◌}
use Rattle.std.specs.Str.{all_scalars, str_eq_ignore_ascii_case}
use Rattle.regular_forms.specs.Regular.{Regular, Has}
use Rattle.turtle_tokens.specs.declared.kinds.TokenKind.{TokenKind}
use Rattle.turtle_tokens.specs.declared.kinds.TokenKind.TheVariants.{Dot, Word}
use Rattle.turtle_tokens.specs.Tokens.{form, closed_filling, last_filling}

-- the bytes are the UTF-8 of a text that the form has
pub record Spells (r : Regular) (bytes text : List ℕ) : Type 0 where
  pub are_scalars : all_scalars text ≡ true
  pub spell : encode_utf8_all text ≡ bytes
  pub has : Has r text

-- a place in a document, by the number of bytes before it, and the bytes from there on
pub record Place : Type 0 where
  pub at : ℕ
  pub bytes : List ℕ

-- a token, with the place where it begins and its characters
pub record PlacedToken : Type 0 where
  pub at : ℕ
  pub kind : TokenKind
  pub text : List ℕ

-- ---- filling

-- filling with bytes behind it. A comment without the end of its line is filling at the end of the document alone, so
-- one that holds bytes that are no UTF-8 is none
abbrev pub IsFilling : List ℕ → List ℕ → Type 0
IsFilling front rest =
    (text : List ℕ) × (Spells closed_filling front text ⊎ (Spells last_filling front text × (rest ≡ [])))

-- behind all filling that stands here
pub record SkipsFilling (here there : Place) : Type 0 where
  pub front : List ℕ
  pub parts : here.bytes ≡ front ++ there.bytes
  pub at : there.at ≡ here.at + length front
  pub filling : IsFilling front there.bytes
  pub longest :
      (other after : List ℕ) → here.bytes ≡ other ++ after → IsFilling other after → length other ≤ length front

-- ---- the next token, which is the longest text of any form

pub record NextToken (here : Place) (t : PlacedToken) (there : Place) : Type 0 where
  pub front : List ℕ
  pub parts : here.bytes ≡ front ++ there.bytes
  pub at : there.at ≡ here.at + length front
  pub begins : t.at ≡ here.at
  pub spells : Spells (form t.kind) front t.text
  pub longest :
      (other after text : List ℕ) (k : TokenKind) → here.bytes ≡ other ++ after → Spells (form k) other text
      → length other ≤ length front

abbrev pub NoToken : Place → Type 0
NoToken here =
    (other after text : List ℕ) (k : TokenKind) → here.bytes ≡ other ++ after → Spells (form k) other text → ⊥

-- ---- the tokens of a statement

abbrev pub is_dot : TokenKind → Bool
is_dot Dot = true
is_dot k = false

abbrev pub is_word : TokenKind → Bool
is_word Word = true
is_word k = false

abbrev pub ends_in_dot : List PlacedToken → Bool
ends_in_dot [] = false
ends_in_dot (t ∷ []) = is_dot t.kind
ends_in_dot (t ∷ u ∷ ts) = ends_in_dot (u ∷ ts)

-- the token is this keyword in any case
abbrev pub is_keyword : List ℕ → PlacedToken → Bool
is_keyword w t = is_word t.kind && str_eq_ignore_ascii_case (encode_utf8_all t.text) w

-- PREFIX has at most two tokens behind it, BASE one
abbrev pub has_all_arguments : List PlacedToken → Bool
has_all_arguments [] = false
has_all_arguments (t ∷ ts) =
    (is_keyword (codes "PREFIX") t && nat_le 2 (length ts)) || (is_keyword (codes "BASE") t && nat_le 1 (length ts))

-- no token belongs to the statement behind these
abbrev pub is_whole : List PlacedToken → Bool
is_whole seen = ends_in_dot seen || has_all_arguments seen

-- after the tokens that were seen the statement has these, and the next statement begins there
abbrev pub AreTokens : List PlacedToken → Place → List PlacedToken → Place → Type 0
AreTokens seen here [] there = (there ≡ here) × ((is_whole seen ≡ true) ⊎ NoToken here)
AreTokens seen here (t ∷ ts) there =
    (is_whole seen ≡ false)
    × ((behind : Place) × (next : Place) × NextToken here t behind × SkipsFilling behind next
    × AreTokens (seen ++ t ∷ []) next ts there)
