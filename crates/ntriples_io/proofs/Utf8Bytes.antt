-- In UTF-8 no byte of a character from 128 on is ASCII, so what is done to ASCII bytes is done to characters.
use Rattle.std.proofs.Common.{◌≡◌, ℕ, ◌+◌, ◌/◌, ◌%◌, ◌<◌, ◌≤◌, Bool, true, false, cond, nat_lt, ltb-true, List, [], ◌∷◌, ◌++◌, refl, sym, ap, ◌∙◌, arith, inl, inr}
use Rattle.std.specs.Char.{encode_utf8}
use Rattle.std.specs.Prelude.{encode_utf8_all, flat_map, ◌==◌}
use Rattle.std.specs.List.{list_all}
use Rattle.std.proofs.lemmas.Bool.{cases_lt}
use Rattle.std.proofs.lemmas.Bool.Decides.{nat_tests}
use Rattle.std.proofs.lemmas.List.{append-nil}
use Rattle.std.proofs.lemmas.List.Concat.{flat_map-append}
use Rattle.std.proofs.lemmas.List.Folds.{list_all-append}
use Rattle.std.proofs.lemmas.Str.{encodes-append, encode_ascii}
use Rattle.ntriples_io.specs.Cutting.{is_plain}
use Rattle.ntriples_io.specs.CanonicalText.{escaped}
use Rattle.ntriples_io.proofs.CuttingLemmas.{and_both}

abbrev AreHigh : List ℕ → Type 0
AreHigh [] = Unit {0}
AreHigh (b ∷ bs) = (128 ≤ b) × AreHigh bs

high_by : (c : ℕ) → 128 ≤ c → (x y z : Bool) → nat_lt c 128 ≡ x
    → AreHigh (cond x (c ∷ []) (cond y ((192 + c / 64) ∷ (128 + c % 64) ∷ []) (cond z ((224 + c / 4096) ∷ (128 + c / 64 % 64) ∷ (128 + c % 64) ∷ []) ((240 + c / 262144) ∷ (128 + c / 4096 % 64) ∷ (128 + c / 64 % 64) ∷ (128 + c % 64) ∷ []))))
high_by c h true y z e = let k : c < 128 = ltb-true _ _ e in absurd (omega arith)
high_by c h false true z e = (omega arith, (omega arith, tt))
high_by c h false false true e = (omega arith, (omega arith, (omega arith, tt)))
high_by c h false false false e = (omega arith, (omega arith, (omega arith, (omega arith, tt))))

high_bytes : (c : ℕ) → 128 ≤ c → AreHigh (encode_utf8 c)
unfolding encode_utf8
high_bytes c h = high_by c h (nat_lt c 128) (nat_lt c 2048) (nat_lt c 65536) refl

-- ---- escapes

escaped_other : (b : ℕ) → (b == 34) ≡ false → (b == 92) ≡ false → (b == 10) ≡ false → (b == 13) ≡ false → escaped b ≡ b ∷ []
escaped_other b p q r s = rw (p, q, r, s) refl

escaped_high : (b : ℕ) → 128 ≤ b → escaped b ≡ b ∷ []
escaped_high b h = escaped_other b (grind (arith, nat_tests)) (grind (arith, nat_tests)) (grind (arith, nat_tests)) (grind (arith, nat_tests))

all_escaped_high : (bs : List ℕ) → AreHigh bs → flat_map escaped bs ≡ bs
all_escaped_high [] h = refl
all_escaped_high (b ∷ bs) h = rw (escaped_high b h.0, all_escaped_high bs h.1) refl

escape_is_ascii : (c : ℕ) (p q r s : Bool) → c < 128
    → encode_utf8_all (cond p (92 ∷ 34 ∷ []) (cond q (92 ∷ 92 ∷ []) (cond r (92 ∷ 110 ∷ []) (cond s (92 ∷ 114 ∷ []) (c ∷ []))))) ≡ cond p (92 ∷ 34 ∷ []) (cond q (92 ∷ 92 ∷ []) (cond r (92 ∷ 110 ∷ []) (cond s (92 ∷ 114 ∷ []) (c ∷ []))))
unfolding encode_utf8
escape_is_ascii c true q r s h = refl
escape_is_ascii c false true r s h = refl
escape_is_ascii c false false true s h = refl
escape_is_ascii c false false false true h = refl
escape_is_ascii c false false false false h = rw (encode_ascii c h) refl

escaped_one : (c : ℕ) → flat_map escaped (encode_utf8 c) ≡ encode_utf8_all (escaped c)
escaped_one c =
    elim (cases_lt c 128) [
      | inl small ↦ rw (encode_ascii c small) (append-nil (escaped c) ∙ sym (escape_is_ascii c (c == 34) (c == 92) (c == 10) (c == 13) small))
      | inr large ↦ all_escaped_high (encode_utf8 c) (high_bytes c large) ∙ sym (append-nil (encode_utf8 c)) ∙ ap encode_utf8_all (sym (escaped_high c large))
    ]

-- to escape the bytes of a text is to escape its characters
pub escaped_text : (cs : List ℕ) → flat_map escaped (encode_utf8_all cs) ≡ encode_utf8_all (flat_map escaped cs)
escaped_text [] = refl
escaped_text (c ∷ cs) =
    flat_map-append escaped (encode_utf8 c) (encode_utf8_all cs) ∙ ap (λ (t : List ℕ). t ++ flat_map escaped (encode_utf8_all cs)) (escaped_one c)
    ∙ ap (λ (t : List ℕ). encode_utf8_all (escaped c) ++ t) (escaped_text cs) ∙ sym (encodes-append (escaped c) (flat_map escaped cs))

-- ---- line breaks

plain_high : (bs : List ℕ) → AreHigh bs → list_all is_plain bs ≡ true
plain_high [] h = refl
plain_high (b ∷ bs) h = let low = h.0 in let one : is_plain b ≡ true = grind (arith, nat_tests) in rw (one, plain_high bs h.1) refl

plain_one : (c : ℕ) → is_plain c ≡ true → list_all is_plain (encode_utf8 c) ≡ true
plain_one c h =
    elim (cases_lt c 128) [
      | inl small ↦ rw (encode_ascii c small, h) refl
      | inr large ↦ plain_high (encode_utf8 c) (high_bytes c large)
    ]

-- where no character is a CR or LF, no byte is
pub plain_bytes : (cs : List ℕ) → list_all is_plain cs ≡ true → list_all is_plain (encode_utf8_all cs) ≡ true
plain_bytes [] h = refl
plain_bytes (c ∷ cs) h =
    let both = and_both (is_plain c) (list_all is_plain cs) h in
    list_all-append is_plain (encode_utf8 c) (encode_utf8_all cs) ∙ rw (plain_one c both.0, plain_bytes cs both.1) refl
