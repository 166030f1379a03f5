-- Cutting a statement's tokens from a text, and what that says over bytes.
use Rattle.std.proofs.Common.{◌≡◌, ℕ, ◌+◌, ◌-◌, ◌≤◌, ◌<◌, Bool, true, false, List, [], ◌∷◌, ◌++◌, length, None, refl, sym, ap, subst, ◌∙◌, append_assoc, arith, length-append, inl, inr}
use Rattle.std.specs.Bool.{IsTrue, Decides}
use Rattle.std.specs.Prelude.{map, ◌⊎◌, ◌||◌, encode_utf8_all}
use Rattle.std.specs.Str.{all_scalars, StartsWithNoChar, chars, IsUtf8, IsCharBoundary}
use Rattle.std.proofs.lemmas.List.{append-nil}
use Rattle.std.proofs.lemmas.Str.{scalars-chars, chars-encodes, chars-nil, IsCharBoundary-at_seam}
use Rattle.regular_forms.specs.Regular.{Has}
use Rattle.regular_forms.specs.Longest.{Longest, NoneAt}
use Rattle.regular_forms.proofs.Derivatives.{nullable, nullable-full}
use Rattle.turtle_tokens.specs.declared.kinds.TokenKind.{TokenKind}
use Rattle.turtle_tokens.specs.declared.statement.Token.{Token}
use Rattle.turtle_tokens.specs.Tokens.{form}
use Rattle.turtle_tokens.specs.Places.{Place, PlacedToken, NextToken, NoToken, SkipsFilling, AreTokens, is_whole, ends_in_dot, has_all_arguments, is_dot}
use Rattle.turtle_tokens.specs.Fronts.{place_of, IsEnd, SkipsTo}
use Rattle.turtle_tokens.specs.Cuts.{placed, IsTokenAt, AreTokensOf}
use Rattle.turtle_tokens.proofs.Fronts.{no_char, front_of, fewer_bytes, all_scalars-front, bytes_in_parts, text_in_parts}
use Rattle.turtle_tokens.proofs.TokenTable.{form-nullable}

-- ---- one token

pub no_token : (at : ℕ) (cs : List ℕ) → NoneAt form cs → (bad : List ℕ) → StartsWithNoChar bad → NoToken (place_of at cs bad)
no_token at cs l bad stop other after text k parts h =
    let f = front_of cs text bad after (no_char bad stop) h.are_scalars (parts ∙ ap (λ (x : List ℕ). x ++ after) (sym h.spell)) in
    l k text f.0 f.1 h.has

next_token : (at : ℕ) (cs rest : List ℕ) (kind : TokenKind) → all_scalars cs ≡ true → (l : Longest form cs kind rest) → (bad : List ℕ) → StartsWithNoChar bad
    → NextToken (place_of at cs bad) (record { at = at; kind = kind; text = l.front }) (place_of (at + length (encode_utf8_all l.front)) rest bad)
next_token at cs rest kind s l bad starts =
    record {
      front = encode_utf8_all l.front;
      parts = bytes_in_parts cs l.front rest bad l.parts;
      at = refl;
      begins = refl;
      spells = record { are_scalars = all_scalars-front l.front rest (subst (λ (t : List ℕ). all_scalars t ≡ true) l.parts s); spell = refl; has = l.has };
      longest = λ other after text k parts g.
          let f = front_of cs text bad after (no_char bad starts) g.are_scalars (parts ∙ ap (λ (t : List ℕ). t ++ after) (sym g.spell)) in
          omega (arith, ap length g.spell, fewer_bytes l.front rest text f.0 (sym l.parts ∙ f.1) (l.longest k text f.0 f.1 g.has));
    }

head_tail : (x y : ℕ) (a c : List ℕ) → x ∷ a ≡ y ∷ c → (x ≡ y) × (a ≡ c)
head_tail x y a c e = (cc, cc)

pub same_split : (a b c d : List ℕ) → a ++ b ≡ c ++ d → length b ≡ length d → (a ≡ c) × (b ≡ d)
same_split [] b [] d e l = (refl, e)
same_split [] b (y ∷ c) d e l = absurd (omega (arith, ap length e, l, length-append c d))
same_split (x ∷ a) b [] d e l = absurd (omega (arith, ap length e, l, length-append a b))
same_split (x ∷ a) b (y ∷ c) d e l =
    let k = head_tail x y (a ++ b) (c ++ d) e in
    let h = same_split a b c d k.1 l in
    (rw (k.0, h.0) refl, h.1)

pub rest_shorter : (text after : List ℕ) (kind : TokenKind) → IsUtf8 text → IsUtf8 after → Longest form (chars text) kind (chars after) → length after ≤ length text
rest_shorter text after kind u v l = omega (arith, ap length (text_in_parts text after l.front u v l.parts), length-append (encode_utf8_all l.front) after)

seam : (text a after : List ℕ) → text ≡ a ++ after → length text - length after ≡ length a
seam text a after e = omega (arith, ap length e, length-append a after)

pub boundary : (text after : List ℕ) (kind : TokenKind) → IsUtf8 text → IsUtf8 after → Longest form (chars text) kind (chars after) → IsCharBoundary text (length text - length after)
boundary text after kind u v l =
    let e = text_in_parts text after l.front u v l.parts in
    subst (λ (n : ℕ). IsCharBoundary text n) (sym (seam text (encode_utf8_all l.front) after e)) (IsCharBoundary-at_seam text (encode_utf8_all l.front) after e v)

front_is : (text front back after : List ℕ) (kind : TokenKind) → IsUtf8 text → IsUtf8 after → (l : Longest form (chars text) kind (chars after)) → text ≡ front ++ back → length back ≡ length after
    → (front ≡ encode_utf8_all l.front) × (back ≡ after)
front_is text front back after kind u v l e n = same_split front back (encode_utf8_all l.front) after (sym e ∙ text_in_parts text after l.front u v l.parts) n

scalars_front : (text after : List ℕ) (kind : TokenKind) → IsUtf8 text → (l : Longest form (chars text) kind (chars after)) → all_scalars l.front ≡ true
scalars_front text after kind u l = all_scalars-front l.front (chars after) (subst (λ (t : List ℕ). all_scalars t ≡ true) l.parts (scalars-chars text u))

next_by : (at : ℕ) (cs : List ℕ) (kind : TokenKind) (bad a rest text front back : List ℕ) → text ≡ a → front ≡ encode_utf8_all a → back ≡ rest
    → NextToken (place_of at cs bad) (record { at = at; kind = kind; text = a }) (place_of (at + length (encode_utf8_all a)) rest bad)
    → NextToken (place_of at cs bad) (record { at = at; kind = kind; text = text }) (place_of (at + length front) back bad)
next_by at cs kind bad a rest text front back e f g h = rw (e, f, g) h

pub is_next : (at : ℕ) (text front back after : List ℕ) (kind : TokenKind) → IsUtf8 text → IsUtf8 after → Longest form (chars text) kind (chars after) → text ≡ front ++ back → length back ≡ length after
    → (bad : List ℕ) → StartsWithNoChar bad → NextToken (place_of at (chars text) bad) (record { at = at; kind = kind; text = chars front }) (place_of (at + length front) (chars back) bad)
is_next at text front back after kind u v l e n bad stop =
    let s = front_is text front back after kind u v l e n in
    next_by at (chars text) kind bad l.front (chars after) (chars front) front (chars back)
    (ap chars s.0 ∙ chars-encodes l.front (scalars_front text after kind u l)) s.0 (ap chars s.1)
    (next_token at (chars text) (chars after) kind (scalars-chars text u) l bad stop)

never_true : (b : Bool) → b ≡ true → b ≡ false → ⊥
never_true b e f = absurd cc

not_empty : (k : TokenKind) → Has (form k) [] → ⊥
not_empty k h = never_true (nullable (form k)) (nullable-full (form k) h) (form-nullable k)

some_bytes : (k : TokenKind) (a : List ℕ) → all_scalars a ≡ true → Has (form k) a → (front : List ℕ) → front ≡ encode_utf8_all a → 0 < length front
some_bytes k a s h [] e = absurd (not_empty k (subst (λ (t : List ℕ). Has (form k) t) (sym (chars-encodes a s) ∙ ap chars (sym e) ∙ chars-nil) h))
some_bytes k a s h (c ∷ front) e = omega arith

pub has_bytes : (text front back after : List ℕ) (kind : TokenKind) → IsUtf8 text → IsUtf8 after → Longest form (chars text) kind (chars after) → text ≡ front ++ back → length back ≡ length after → 0 < length front
has_bytes text front back after kind u v l e n =
    some_bytes kind l.front (scalars_front text after kind u l) l.has front (front_is text front back after kind u v l e n).0

-- ---- the loop

last_dot : (seen : List PlacedToken) (t : PlacedToken) → ends_in_dot (seen ++ t ∷ []) ≡ is_dot t.kind
last_dot [] t = refl
last_dot (s ∷ []) t = refl
last_dot (s ∷ u ∷ seen) t = last_dot (u ∷ seen) t

map_end : (seen : List Token) (t : Token) → map placed (seen ++ t ∷ []) ≡ map placed seen ++ placed t ∷ []
map_end [] t = refl
map_end (s ∷ seen) t = ap (λ (x : List PlacedToken). placed s ∷ x) (map_end seen t)

either_false : (a b : Bool) → a ≡ false → b ≡ false → (a || b) ≡ false
either_false a b e f = rw (e, f) refl

either_true : (a b : Bool) → (a ≡ true) ⊎ (b ≡ true) → (a || b) ≡ true
either_true true b h = refl
either_true false b h = elim h [ inl e ↦ absurd cc | inr e ↦ e ]

-- with these tokens seen, before the rest: the tokens from here on, put behind those, are the statement's
pub record Cutting (at_end : Bool) (at : ℕ) (text : List ℕ) (seen : List Token) (here : ℕ) (rest : List ℕ) (ended : Bool) : Type 0 where
  pub ended_is : ended ≡ ends_in_dot (map placed seen)
  pub total : here + length rest ≡ at + length text
  pub few : length seen + length rest ≤ length text
  pub grows : (bad : List ℕ) → StartsWithNoChar bad → IsEnd at_end bad → (ts : List PlacedToken) (there : Place) → AreTokens (map placed seen) (place_of here (chars rest) bad) ts there → AreTokens [] (place_of at (chars text) bad) (map placed seen ++ ts) there

pub cutting_begin : (at_end : Bool) (at : ℕ) (text : List ℕ) → Cutting at_end at text [] at text false
cutting_begin at_end at text = record { ended_is = refl; total = refl; few = omega arith; grows = λ bad s e ts there c. c }

place_after : (here : ℕ) (rest front after next a : List ℕ) → rest ≡ front ++ after → after ≡ encode_utf8_all a ++ next → here + length front + length (encode_utf8_all a) ≡ here + (length rest - length next)
place_after here rest front after next a e f = omega (arith, ap length e, ap length f, length-append front after, length-append (encode_utf8_all a) next)

next_total : (here at : ℕ) (rest text front after next : List ℕ) → rest ≡ front ++ after → length next ≤ length after → here + length rest ≡ at + length text → (here + (length rest - length next)) + length next ≡ at + length text
next_total here at rest text front after next e l h = omega (arith, ap length e, l, h, length-append front after)

grow_one : (at_end : Bool) (at : ℕ) (text : List ℕ) (seen : List Token) (here : ℕ) (rest : List ℕ) (ended : Bool) (t : Token) (after next bad a : List ℕ) (ts : List PlacedToken) (there : Place) → Cutting at_end at text seen here rest ended
    → is_whole (map placed seen) ≡ false → NextToken (place_of here (chars rest) bad) (placed t) (place_of (here + length t.text.now) (chars after) bad) → SkipsFilling (place_of (here + length t.text.now) (chars after) bad) (place_of (here + length t.text.now + length (encode_utf8_all a)) (chars next) bad)
    → StartsWithNoChar bad → IsEnd at_end bad → AreTokens (map placed seen ++ placed t ∷ []) (place_of (here + length t.text.now + length (encode_utf8_all a)) (chars next) bad) ts there → AreTokens [] (place_of at (chars text) bad) (map placed seen ++ placed t ∷ ts) there
grow_one at_end at text seen here rest ended t after next bad a ts there h e n f s b c =
    h.grows bad s b (placed t ∷ ts) there (e, (place_of (here + length t.text.now) (chars after) bad, place_of (here + length t.text.now + length (encode_utf8_all a)) (chars next) bad, n, f, c))

pub cutting_more : (at_end : Bool) (at : ℕ) (text : List ℕ) (seen : List Token) (here : ℕ) (rest : List ℕ) (ended : Bool) (t : Token) (after next : List ℕ) → IsUtf8 after → IsUtf8 next
    → ended ≡ false → has_all_arguments (map placed seen) ≡ false → (rest ≡ t.text.now ++ after) × (0 < length t.text.now) × ((bad : List ℕ) → StartsWithNoChar bad → NextToken (place_of here (chars rest) bad) (placed t) (place_of (here + length t.text.now) (chars after) bad))
    → length next ≤ length after → SkipsTo at_end (chars after) (chars next) → Cutting at_end at text seen here rest ended → Cutting at_end at text (seen ++ t ∷ []) (here + (length rest - length next)) next (is_dot t.kind)
cutting_more at_end at text seen here rest ended t after next u v d full n small skip h =
    record {
      ended_is = sym (ap ends_in_dot (map_end seen t) ∙ last_dot (map placed seen) (placed t));
      total = next_total here at rest text t.text.now after next n.0 small h.total;
      few = omega (arith, ap length n.0, n.1, small, h.few, length-append t.text.now after, length-append seen (t ∷ []));
      grows = λ bad s b ts there c.
          let g = skip (here + length t.text.now) bad s b in
          let same_place : here + length t.text.now + length (encode_utf8_all g.0) ≡ here + (length rest - length next) = place_after here rest t.text.now after next g.0 n.0 (text_in_parts after next g.0 u v g.1) in
          let whole : is_whole (map placed seen) ≡ false = either_false (ends_in_dot (map placed seen)) (has_all_arguments (map placed seen)) (sym h.ended_is ∙ d) full in
          let c1 = subst (λ (x : List PlacedToken). AreTokens x (place_of (here + (length rest - length next)) (chars next) bad) ts there) (map_end seen t) c in
          let c2 = subst (λ (x : ℕ). AreTokens (map placed seen ++ placed t ∷ []) (place_of x (chars next) bad) ts there) (sym same_place) c1 in
          let done = grow_one at_end at text seen here rest ended t after next bad g.0 ts there h whole (n.2 bad s) g.2 s b c2 in
          subst (λ (x : List PlacedToken). AreTokens [] (place_of at (chars text) bad) x there) (sym (ap (λ (x : List PlacedToken). x ++ ts) (map_end seen t) ∙ append_assoc (map placed seen) (placed t ∷ []) ts)) done;
    }

pub cutting_done : (at_end : Bool) (at : ℕ) (text : List ℕ) (seen : List Token) (here : ℕ) (rest : List ℕ) (ended : Bool) → (ended ≡ true) ⊎ (has_all_arguments (map placed seen) ≡ true) → Cutting at_end at text seen here rest ended → AreTokensOf at_end at text seen here rest
cutting_done at_end at text seen here rest ended d h bad s b =
    let whole : is_whole (map placed seen) ≡ true = either_true (ends_in_dot (map placed seen)) (has_all_arguments (map placed seen)) (elim d [ inl e ↦ inl (sym h.ended_is ∙ e) | inr e ↦ inr e ]) in
    subst (λ (x : List PlacedToken). AreTokens [] (place_of at (chars text) bad) x (place_of here (chars rest) bad)) (append-nil (map placed seen)) (h.grows bad s b [] (place_of here (chars rest) bad) (refl, inl whole))

pub cutting_stops : (at_end : Bool) (at : ℕ) (text : List ℕ) (seen : List Token) (here : ℕ) (rest : List ℕ) (ended : Bool) → IsTokenAt here rest None → Cutting at_end at text seen here rest ended → AreTokensOf at_end at text seen here rest
cutting_stops at_end at text seen here rest ended n h bad s b =
    subst (λ (x : List PlacedToken). AreTokens [] (place_of at (chars text) bad) x (place_of here (chars rest) bad)) (append-nil (map placed seen)) (h.grows bad s b [] (place_of here (chars rest) bad) (refl, inr (n bad s)))

pub next_shorter : (rest front after next : List ℕ) → rest ≡ front ++ after → length next ≤ length after → length next ≤ length rest
next_shorter rest front after next e l = omega (arith, ap length e, l, length-append front after)

false_true : {P : Type 0} → false ≡ true → P
false_true h = absurd cc

-- two tests of one thing
pub same_test : {P : Type 0} (r b : Bool) → (IsTrue r → P) × (P → IsTrue r) → Decides b P → r ≡ b
same_test true true h k = refl
same_test true false h k = false_true (k.1 (h.0 refl))
same_test false true h k = false_true (h.1 (k.0 refl))
same_test false false h k = refl
