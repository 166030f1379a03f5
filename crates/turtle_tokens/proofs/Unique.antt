-- What stands at a place is determined: the next token, the filling and the tokens of a statement.
use Rattle.std.proofs.Common.{◌≡◌, ℕ, ◌+◌, ◌≤◌, true, false, List, [], ◌∷◌, ◌++◌, length, refl, sym, ap, subst, ◌∙◌, arith, length-append, inl, inr}
use Rattle.std.specs.Prelude.{◌⊎◌}
use Rattle.std.specs.Str.{chars}
use Rattle.std.proofs.lemmas.Str.{chars-encodes}
use Rattle.regular_forms.specs.Regular.{Has}
use Rattle.turtle_tokens.specs.declared.kinds.TokenKind.{TokenKind}
use Rattle.turtle_tokens.specs.Tokens.{form}
use Rattle.turtle_tokens.specs.Places.{Place, PlacedToken, Spells, NextToken, NoToken, SkipsFilling, AreTokens, is_whole}
use Rattle.turtle_tokens.proofs.CutLaws.{same_split}
use Rattle.turtle_tokens.proofs.TokenTable.{form-one_kind}

abbrev place : ℕ → List ℕ → Place
place at bytes = record { at = at; bytes = bytes }

abbrev token : ℕ → TokenKind → List ℕ → PlacedToken
token at kind text = record { at = at; kind = kind; text = text }

same_place : (p q : Place) → p.at ≡ q.at → p.bytes ≡ q.bytes → p ≡ q
same_place p q e f = ap (λ (a : ℕ). place a p.bytes) e ∙ ap (λ (b : List ℕ). place q.at b) f

same_token : (t u : PlacedToken) → t.at ≡ u.at → t.kind ≡ u.kind → t.text ≡ u.text → t ≡ u
same_token t u e f g = ap (λ (a : ℕ). token a t.kind t.text) e ∙ ap (λ (k : TokenKind). token u.at k t.text) f ∙ ap (λ (x : List ℕ). token u.at u.kind x) g

same_front : (whole a b c d : List ℕ) → whole ≡ a ++ b → whole ≡ c ++ d → length a ≤ length c → length c ≤ length a → (a ≡ c) × (b ≡ d)
same_front whole a b c d e f le ge = same_split a b c d (sym e ∙ f) (omega (arith, ap length e, ap length f, length-append a b, length-append c d, le, ge))

same_text : (k j : TokenKind) (front text other : List ℕ) → Spells (form k) front text → Spells (form j) front other → text ≡ other
same_text k j front text other h i = sym (chars-encodes text h.are_scalars) ∙ ap chars (h.spell ∙ sym i.spell) ∙ chars-encodes other i.are_scalars

same_spelled : (k j : TokenKind) (front text other : List ℕ) → Spells (form k) front text → Spells (form j) front other → k ≡ j
same_spelled k j front text other h i = form-one_kind text k j h.has (subst (λ (x : List ℕ). Has (form j) x) (sym (same_text k j front text other h i)) i.has)

pub next-unique : (here : Place) (t : PlacedToken) (there : Place) (u : PlacedToken) (end : Place) → NextToken here t there → NextToken here u end → (t ≡ u) × (there ≡ end)
next-unique here t there u end h i =
    let s = same_front here.bytes h.front there.bytes i.front end.bytes h.parts i.parts (i.longest h.front there.bytes t.text t.kind h.parts h.spells) (h.longest i.front end.bytes u.text u.kind i.parts i.spells) in
    let j : Spells (form u.kind) h.front u.text = subst (λ (x : List ℕ). Spells (form u.kind) x u.text) (sym s.0) i.spells in (
      same_token t u (h.begins ∙ sym i.begins) (same_spelled t.kind u.kind h.front t.text u.text h.spells j) (same_text t.kind u.kind h.front t.text u.text h.spells j),
      same_place there end (h.at ∙ ap (λ (n : List ℕ). here.at + length n) s.0 ∙ sym i.at) s.1,
    )

pub filling-unique : (here there end : Place) → SkipsFilling here there → SkipsFilling here end → there ≡ end
filling-unique here there end h i =
    let s = same_front here.bytes h.front there.bytes i.front end.bytes h.parts i.parts (i.longest h.front there.bytes h.parts h.filling) (h.longest i.front end.bytes i.parts i.filling) in
    same_place there end (h.at ∙ ap (λ (n : List ℕ). here.at + length n) s.0 ∙ sym i.at) s.1

true_false : {P : Type 0} → true ≡ false → P
true_false e = absurd cc

-- where a statement's tokens end no token goes on
no_more : (seen : List PlacedToken) (here : Place) (t : PlacedToken) (there : Place) → (is_whole seen ≡ true) ⊎ NoToken here → is_whole seen ≡ false → NextToken here t there → ⊥
no_more seen here t there stop e h = elim stop [
  | inl w ↦ true_false (sym w ∙ e)
  | inr none ↦ none h.front there.bytes t.text t.kind h.parts h.spells
]

pub tokens-unique : (seen : List PlacedToken) (here : Place) (ts : List PlacedToken) (there : Place) (us : List PlacedToken) (end : Place) → AreTokens seen here ts there → AreTokens seen here us end → (ts ≡ us) × (there ≡ end)
tokens-unique seen here [] there [] end h i = (refl, h.0 ∙ sym i.0)
tokens-unique seen here [] there (u ∷ us) end h i = absurd (no_more seen here u i.1.0 h.1 i.0 i.1.2)
tokens-unique seen here (t ∷ ts) there [] end h i = absurd (no_more seen here t h.1.0 i.1 h.0 h.1.2)
tokens-unique seen here (t ∷ ts) there (u ∷ us) end h i =
    let n = next-unique here t h.1.0 u i.1.0 h.1.2 i.1.2 in
    let f = filling-unique h.1.0 h.1.1 i.1.1 h.1.3 (subst (λ (p : Place). SkipsFilling p i.1.1) (sym n.1) i.1.3) in
    let rest : AreTokens (seen ++ t ∷ []) h.1.1 us end = subst (λ (p : Place). AreTokens (seen ++ t ∷ []) p us end) (sym f) (subst (λ (x : PlacedToken). AreTokens (seen ++ x ∷ []) i.1.1 us end) (sym n.0) i.1.4) in
    let more = tokens-unique (seen ++ t ∷ []) h.1.1 ts there us end h.1.4 rest in
    (ap (λ (x : PlacedToken). x ∷ ts) n.0 ∙ ap (λ (xs : List PlacedToken). u ∷ xs) more.0, more.1)
