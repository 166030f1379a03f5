-- What stands at the front of bytes whose characters are known, and behind which no character stands.
use Rattle.std.proofs.Common.{◌≡◌, ℕ, ◌≤◌, ◌<◌, Bool, true, false, List, [], ◌∷◌, ◌++◌, length, take, drop, refl, sym, ap, subst, ◌∙◌, append_assoc, arith, length-append}
use Rattle.std.specs.Prelude.{encode_utf8, encode_utf8_all, ◌&&◌}
use Rattle.std.specs.Str.{all_scalars, StartsWithNoChar, IsUtf8, IsValidUpTo, chars}
use Rattle.std.proofs.lemmas.Str.{encode_same, encodes-append, encodes-chars, IsUtf8-append, IsUtf8-encode, length-encode, len_utf8_bounds}
use Rattle.std.proofs.lemmas.List.{append-nil, length-take-le, take-append-drop, length-drop}
use Rattle.std.proofs.Math.Seq.{take-append_seam}
use Rattle.turtle_tokens.specs.Fronts.{IsUtf8Front}

-- no character stands at the front of these bytes
abbrev pub NoChar : List ℕ → Type 0
NoChar bad = (c : ℕ) (rest : List ℕ) → all_scalars (c ∷ []) ≡ true → bad ≡ encode_utf8 c ++ rest → ⊥

scalar_of : (b : Bool) → (b && true) ≡ true → b ≡ true
scalar_of true h = refl
scalar_of false h = absurd cc

pub no_char : (bad : List ℕ) → StartsWithNoChar bad → NoChar bad
no_char bad stop c rest s e = stop c rest (scalar_of _ s) e

and_parts : (a b : Bool) → (a && b) ≡ true → ((a && true) ≡ true) × (b ≡ true)
and_parts true b h = (refl, h)
and_parts false b h = absurd cc

first_scalar : (c : ℕ) (cs : List ℕ) → all_scalars (c ∷ cs) ≡ true → (all_scalars (c ∷ []) ≡ true) × (all_scalars cs ≡ true)
first_scalar c cs h = and_parts _ _ h

both_true : (a b c : Bool) → (a && b) ≡ true → c ≡ true → (a && c) ≡ true
both_true true b c h k = k
both_true false b c h k = absurd cc

pub all_scalars-front : (a rest : List ℕ) → all_scalars (a ++ rest) ≡ true → all_scalars a ≡ true
all_scalars-front [] rest h = refl
all_scalars-front (c ∷ a) rest h = both_true _ _ _ h (all_scalars-front a rest (first_scalar c (a ++ rest) h).1)

-- a text whose bytes stand at the front is the front of the characters
pub front_of : (cs text bad after : List ℕ) → NoChar bad → all_scalars text ≡ true → encode_utf8_all cs ++ bad ≡ encode_utf8_all text ++ after
    → (tail : List ℕ) × (cs ≡ text ++ tail) × (after ≡ encode_utf8_all tail ++ bad)
front_of cs [] bad after stop s e = (cs, refl, sym e)
front_of [] (c ∷ text) bad after stop s e = absurd (stop c (encode_utf8_all text ++ after) (first_scalar c text s).0 (e ∙ append_assoc (encode_utf8 c) (encode_utf8_all text) after))
front_of (d ∷ cs) (c ∷ text) bad after stop s e =
    let k = encode_same d c (encode_utf8_all cs ++ bad) (encode_utf8_all text ++ after) (sym (append_assoc (encode_utf8 d) (encode_utf8_all cs) bad) ∙ e ∙ append_assoc (encode_utf8 c) (encode_utf8_all text) after) in
    let h = front_of cs text bad after stop (first_scalar c text s).1 k.1 in
    (h.0, ap (λ (x : ℕ). x ∷ cs) k.0 ∙ ap (λ (x : List ℕ). c ∷ x) h.1, h.2)

tail_same : (c d : ℕ) (t u : List ℕ) → c ∷ t ≡ d ∷ u → (c ≡ d) × (t ≡ u)
tail_same c d t u e = (cc, cc)

longer_front : (a rest text tail : List ℕ) → a ++ rest ≡ text ++ tail → length text ≤ length a → (middle : List ℕ) × (a ≡ text ++ middle)
longer_front a rest [] tail e le = (a, refl)
longer_front [] rest (c ∷ text) tail e le = absurd (omega (arith, le))
longer_front (d ∷ a) rest (c ∷ text) tail e le =
    let k = tail_same d c (a ++ rest) (text ++ tail) e in
    let h = longer_front a rest text tail k.1 (omega (arith, le)) in
    (h.0, ap (λ (x : ℕ). x ∷ a) k.0 ∙ ap (λ (x : List ℕ). c ∷ x) h.1)

-- what has no more characters has no more bytes
pub fewer_bytes : (a rest text tail : List ℕ) → a ++ rest ≡ text ++ tail → length text ≤ length a → length (encode_utf8_all text) ≤ length (encode_utf8_all a)
fewer_bytes a rest text tail e le =
    let m = longer_front a rest text tail e le in
    omega (arith, ap (λ (t : List ℕ). length (encode_utf8_all t)) m.1, ap length (encodes-append text m.0), length-append (encode_utf8_all text) (encode_utf8_all m.0))

-- the bytes of characters in two parts, with bytes behind them
pub bytes_in_parts : (cs a rest bad : List ℕ) → cs ≡ a ++ rest → encode_utf8_all cs ++ bad ≡ encode_utf8_all a ++ (encode_utf8_all rest ++ bad)
bytes_in_parts cs a rest bad e = ap (λ (t : List ℕ). t ++ bad) (ap encode_utf8_all e ∙ encodes-append a rest) ∙ append_assoc (encode_utf8_all a) (encode_utf8_all rest) bad

-- the bytes of a text whose characters are in two parts
pub text_in_parts : (text after a : List ℕ) → IsUtf8 text → IsUtf8 after → chars text ≡ a ++ chars after → text ≡ encode_utf8_all a ++ after
text_in_parts text after a u v e = sym (encodes-chars text u) ∙ ap encode_utf8_all e ∙ encodes-append a (chars after) ∙ ap (λ (t : List ℕ). encode_utf8_all a ++ t) (encodes-chars after v)

-- ---- the longest front that is UTF-8

after_take : (bs ds rest : List ℕ) (n : ℕ) → drop n bs ≡ ds ++ rest → bs ≡ (take n bs ++ ds) ++ rest
after_take bs ds rest n e = sym (take-append-drop n bs) ∙ ap (λ (t : List ℕ). take n bs ++ t) e ∙ sym (append_assoc (take n bs) ds rest)

longer_text : (bs ds rest : List ℕ) (n : ℕ) → IsUtf8 (take n bs) → IsUtf8 ds → drop n bs ≡ ds ++ rest → IsUtf8 (take (length (take n bs ++ ds)) bs)
longer_text bs ds rest n u v e =
    let same : take (length (take n bs ++ ds)) bs ≡ take n bs ++ ds = ap (take (length (take n bs ++ ds))) (after_take bs ds rest n e) ∙ take-append_seam (take n bs ++ ds) rest in
    subst (λ (t : List ℕ). IsUtf8 t) (sym same) (IsUtf8-append (take n bs) ds u v)

no_char_behind : (bs : List ℕ) (n : ℕ) → IsValidUpTo bs n → StartsWithNoChar (drop n bs)
no_char_behind bs n h c rest s e =
    h.longest (length (take n bs ++ encode_utf8 c)) (omega (arith, length-append (take n bs) (encode_utf8 c), length-encode c, (len_utf8_bounds c).0, length-take-le n bs (omega (arith, h.short)))) (longer_text bs (encode_utf8 c) rest n h.front (IsUtf8-encode c s) e)

no_char_at_end : StartsWithNoChar []
no_char_at_end c rest s e = omega (arith, ap length e, length-append (encode_utf8 c) rest, length-encode c, (len_utf8_bounds c).0)

pub whole_front : (bytes text : List ℕ) → text ≡ bytes → IsUtf8 bytes → IsUtf8Front bytes text true
whole_front bytes text e u = record { bad = []; parts = sym (append-nil text ∙ e); is_text = subst (λ (t : List ℕ). IsUtf8 t) (sym e) u; stops = no_char_at_end; ends = refl }

some_left : (bs : List ℕ) (n : ℕ) → n < length bs → drop n bs ≡ [] → ⊥
some_left bs n h e = omega (arith, h, ap length e, length-drop n bs)

pub valid_front : (bytes text : List ℕ) (n : ℕ) → IsValidUpTo bytes n → text ≡ take n bytes → IsUtf8Front bytes text false
valid_front bytes text n h e = record {
  bad = drop n bytes;
  parts = sym (ap (λ (t : List ℕ). t ++ drop n bytes) e ∙ take-append-drop n bytes);
  is_text = subst (λ (t : List ℕ). IsUtf8 t) (sym e) h.front;
  stops = no_char_behind bytes n h;
  ends = λ none. some_left bytes n h.short none;
}
