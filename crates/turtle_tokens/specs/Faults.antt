-- Faults that a token of a statement has by itself: it opens one bracket too many, or its label is reserved.
use Rattle.std.specs.Prelude.{◌≡◌, ℕ, ◌+◌, ◌-◌, cond, nat_le, nat_eq, List, [], ◌∷◌, Option, Some, None, Result, Ok}
use Rattle.std.specs.Prelude.{Err, codes, encode_utf8_all}
use Rattle.std.specs.List.{starts_with}
use Rattle.grammar_forms.specs.Reading.{or_else}
use Rattle.turtle_tokens.specs.declared.kinds.TokenKind.{TokenKind}
use Rattle.turtle_tokens.specs.declared.kinds.TokenKind.TheVariants.{OpenBracket, CloseBracket, OpenParen, CloseParen}
use Rattle.turtle_tokens.specs.declared.kinds.TokenKind.TheVariants.{BlankNodeLabel}
use Rattle.turtle_tokens.specs.declared.faults.TokenFault.{TokenFault}
use Rattle.turtle_tokens.specs.declared.faults.TokenFault.TheVariants.{TooDeep, ReservedLabel}
use Rattle.turtle_tokens.specs.declared.faults.Effect.{Effect}
use Rattle.turtle_tokens.specs.declared.faults.Effect.TheVariants.{Opening, Closing, Reserved, Plain}
use Rattle.turtle_tokens.specs.Places.{PlacedToken}

-- what a token does to the brackets that are open. ANON opens and closes none
abbrev pub effect_of : TokenKind → List ℕ → Effect
effect_of OpenBracket text = Opening
effect_of OpenParen text = Opening
effect_of CloseBracket text = Closing
effect_of CloseParen text = Closing
effect_of BlankNodeLabel text = cond (starts_with nat_eq (encode_utf8_all text) (codes "_:x-anon-")) Reserved Plain
effect_of k text = Plain

-- how many brackets are open behind it, where n were open before it
abbrev pub open_behind : Effect → ℕ → ℕ
open_behind Opening n = n + 1
open_behind Closing n = n - 1
open_behind Reserved n = n
open_behind Plain n = n

-- its fault by itself, at its place: at most 128 brackets are open
abbrev pub own_fault : Effect → ℕ → ℕ → Option TokenFault
own_fault Opening n at = cond (nat_le 128 n) (Some (TooDeep at)) None
own_fault Closing n at = None
own_fault Reserved n at = Some (ReservedLabel at)
own_fault Plain n at = None

-- the first fault of these tokens, where n brackets are open before them
abbrev pub first_fault : ℕ → List PlacedToken → Option TokenFault
first_fault n [] = None
first_fault n (t ∷ ts) =
    or_else (own_fault (effect_of t.kind t.text) n t.at) (first_fault (open_behind (effect_of t.kind t.text) n) ts)

-- the token's fault, or how many brackets are open behind it
abbrev pub IsStep : PlacedToken → ℕ → Result ℕ TokenFault → Type 0
IsStep t n (Ok m) = (own_fault (effect_of t.kind t.text) n t.at ≡ None) × (m ≡ open_behind (effect_of t.kind t.text) n)
IsStep t n (Err f) = own_fault (effect_of t.kind t.text) n t.at ≡ Some f
