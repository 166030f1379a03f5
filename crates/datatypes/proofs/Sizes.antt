-- Integers that 128 bits do not hold.
use Rattle.std.proofs.Common.{◌≡◌, ℕ, zero, suc, ◌^◌, ◌<◌, ◌≤◌, true, false, ◌&&◌, List, length, ◌⊎◌, inl, inr, refl, sym, ap, ◌∙◌, arith, rules, ltb, cond, subst, ◌-◌}
use Rattle.std.specs.Prelude.{ℤ, pos, neg_ℤ, nat_lt, FitsSigned, Option, Some, None, option_map, option_and_then}
use Rattle.std.specs.List.{list_all}
use Rattle.std.specs.Char.{is_ascii_digit}
use Rattle.std.specs.Int.{w128}
use Rattle.std.specs.Str.Parse.{IsNumeral, digits_value, without_leading_sign, starts_with_minus, signed_digits_value}
use Rattle.std.proofs.lemmas.Str.Parse.{IsNumeralModel, numerals_by_value}
use Rattle.std.proofs.lemmas.Bool.Decides.{nat_tests}
use Rattle.datatypes.specs.Forms.{is_integer, integer_of, integer_within, is_within}
use Rattle.datatypes.specs.Literals.{by_size}
use Rattle.datatypes.specs.declared.range.Range.{Range}
use Rattle.datatypes.specs.declared.integer.Integer.{Integer}
use Rattle.datatypes.specs.declared.integer.Integer.TheVariants.{Below, Above}

own : IsNumeralModel (λ ds. list_all is_ascii_digit ds ≡ true) (digits_value 10)
own = numerals_by_value _ (search rules)

fits_or_over : (n : ℕ) → (n < 2 ^ 127) ⊎ (2 ^ 127 ≤ n)
fits_or_over n = grind arith

below : (n : ℕ) → ¬ (FitsSigned w128 (neg_ℤ (pos n))) → by_size (neg_ℤ (pos n)) ≡ Below
below zero h = absurd (h (record { sfits = omega arith }))
below (suc n) h = by (fits_or_over n)
  where
    by : (n < 2 ^ 127) ⊎ (2 ^ 127 ≤ n) → by_size (neg_ℤ (pos (suc n))) ≡ Below
    by (inl fits) = absurd (h (record { sfits = fits }))
    by (inr over) = let e : ltb (2 ^ 127 - 1) n ≡ true = grind (arith, nat_tests) in rw e refl

above : (n : ℕ) → ¬ (FitsSigned w128 (pos n)) → by_size (pos n) ≡ Above
above n h = by (fits_or_over n)
  where
    by : (n < 2 ^ 127) ⊎ (2 ^ 127 ≤ n) → by_size (pos n) ≡ Above
    by (inl fits) = absurd (h (record { sfits = fits }))
    by (inr over) = let e : ltb (2 ^ 127 - 1) n ≡ true = grind (arith, nat_tests) in rw e refl

numeral : (cs : List ℕ) → (nat_lt 0 (length cs) && list_all is_ascii_digit cs) ≡ true → IsNumeral 10 cs
numeral cs h = let p : (0 < length cs) × (list_all is_ascii_digit cs ≡ true) = grind (arith, nat_tests) in (p.0, own.to cs p.1)

-- that no 128 bits hold the integer
abbrev pub IsLarge : List ℕ → Type 0
IsLarge bs = ¬ (IsNumeral 10 (without_leading_sign bs) × FitsSigned w128 (signed_digits_value 10 bs))

value_is : (bs : List ℕ) (z : ℤ) → is_integer bs ≡ true → signed_digits_value 10 bs ≡ z → integer_of bs ≡ Some z
value_is bs z form e = ap (λ b. cond b (Some (signed_digits_value 10 bs)) None) form ∙ ap Some e

-- the sign of such an integer tells where it is
pub below_is : (bs : List ℕ) → is_integer bs ≡ true → starts_with_minus bs ≡ true → IsLarge bs → Some Below ≡ option_map by_size (integer_of bs)
below_is bs form minus large = sym (ap (option_map by_size) (value_is bs _ form e) ∙ ap Some (below n (λ fits. large (numeral _ form, subst (FitsSigned w128) (sym e) fits))))
  where
    n : ℕ
    n = digits_value 10 (without_leading_sign bs)

    e : signed_digits_value 10 bs ≡ neg_ℤ (pos n)
    e = ap (λ b. cond b (neg_ℤ (pos n)) (pos n)) minus

pub above_is : (bs : List ℕ) → is_integer bs ≡ true → starts_with_minus bs ≡ false → IsLarge bs → Some Above ≡ option_map by_size (integer_of bs)
above_is bs form plus large = sym (ap (option_map by_size) (value_is bs _ form e) ∙ ap Some (above n (λ fits. large (numeral _ form, subst (FitsSigned w128) (sym e) fits))))
  where
    n : ℕ
    n = digits_value 10 (without_leading_sign bs)

    e : signed_digits_value 10 bs ≡ pos n
    e = ap (λ b. cond b (neg_ℤ (pos n)) (pos n)) plus

-- an integer of the range, however large
pub within_is : (r : Range) (text : List ℕ) (i : Integer) → Some i ≡ option_map by_size (integer_of text) → ((z : ℤ) → i ≡ by_size z → true ≡ is_within r z) → Some i ≡ option_map by_size (integer_within r text)
within_is r text i e h = by (integer_of text) e
  where
    by : (o : Option ℤ) → Some i ≡ option_map by_size o → Some i ≡ option_map by_size (option_and_then (λ z. cond (is_within r z) (Some z) None) o)
    by None d = cc
    by (Some z) d = d ∙ ap (λ b. option_map by_size (cond b (Some z) None)) (h z (let k : i ≡ by_size z = cc in k))
