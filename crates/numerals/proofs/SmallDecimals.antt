-- No two numbers have the same digits, where one of them is small.
use Rattle.std.proofs.Common.{◌≡◌, ℕ, zero, suc, ◌+◌, ◌/◌, ◌%◌, ◌^◌, ◌<◌, ◌≤◌, Bool, true, false, cond, eqb, List, [], ◌∷◌, length, refl, ap, arith, ◌⊎◌, inl, inr}
use Rattle.std.proofs.Math.Nat.{pow-suc}
use Rattle.std.proofs.lemmas.Bool.{eqb-true}
use Rattle.std.specs.Fmt.{decimal, digits, digits_onto, digit_glyph}
use Rattle.std.proofs.lemmas.Fmt.{decimal_injective, length-decimal-le}

-- the number of digits that are written, which are at most k
onto_longer : (k n : ℕ) (acc : List ℕ) → length acc ≤ length (digits_onto k 10 false n acc)
onto_longer zero n acc = omega arith
onto_longer (suc k) n acc = by (eqb (n / 10) 0) (onto_longer k (n / 10) (digit_glyph false (n % 10) ∷ acc))
  where
    by : (t : Bool) → length (digit_glyph false (n % 10) ∷ acc) ≤ length (digits_onto k 10 false (n / 10) (digit_glyph false (n % 10) ∷ acc)) → length acc ≤ length (cond t (digit_glyph false (n % 10) ∷ acc) (digits_onto k 10 false (n / 10) (digit_glyph false (n % 10) ∷ acc)))
    by true h = omega arith
    by false h = omega arith

ten_pos : (j : ℕ) → 0 < 10 ^ j
ten_pos zero = omega arith
ten_pos (suc j) = let h = ten_pos j in omega (arith, pow-suc 10 j)

-- a number that is at least 10 to the j has more than j digits
many_digits : (k j n : ℕ) (acc : List ℕ) → j < k → 10 ^ j ≤ n → j + 1 + length acc ≤ length (digits_onto k 10 false n acc)
many_digits zero j n acc lt le = absurd (omega arith)
many_digits (suc k) zero n acc lt le = by (eqb (n / 10) 0) (onto_longer k (n / 10) (digit_glyph false (n % 10) ∷ acc))
  where
    by : (t : Bool) → length (digit_glyph false (n % 10) ∷ acc) ≤ length (digits_onto k 10 false (n / 10) (digit_glyph false (n % 10) ∷ acc)) → 0 + 1 + length acc ≤ length (cond t (digit_glyph false (n % 10) ∷ acc) (digits_onto k 10 false (n / 10) (digit_glyph false (n % 10) ∷ acc)))
    by true h = omega arith
    by false h = omega arith
many_digits (suc k) (suc j) n acc lt le =
    by (eqb (n / 10) 0) refl (many_digits k j (n / 10) (digit_glyph false (n % 10) ∷ acc) (omega arith) tenth)
  where
    tenth : 10 ^ j ≤ n / 10
    tenth = omega (arith, pow-suc 10 j)

    some : 0 < 10 ^ j
    some = ten_pos j

    by : (t : Bool) → eqb (n / 10) 0 ≡ t → j + 1 + length (digit_glyph false (n % 10) ∷ acc) ≤ length (digits_onto k 10 false (n / 10) (digit_glyph false (n % 10) ∷ acc)) → suc j + 1 + length acc ≤ length (cond t (digit_glyph false (n % 10) ∷ acc) (digits_onto k 10 false (n / 10) (digit_glyph false (n % 10) ∷ acc)))
    by true e h = let z = eqb-true (n / 10) 0 e in absurd (omega (arith, tenth, some))
    by false e h = omega arith

long_decimal : (n : ℕ) → 10 ^ 10 ≤ n → 11 ≤ length (decimal n)
unfolding digits
long_decimal n le = let h = many_digits 64 10 n [] (omega arith) le in omega (arith, h)

-- no other number is written as a small one
pub small_decimal : (n m : ℕ) → m ≤ 4294967295 → decimal n ≡ decimal m → n ≡ m
small_decimal n m small e = by (lt_or_le n (10 ^ 10))
  where
    lt_or_le : (a b : ℕ) → (a < b) ⊎ (b ≤ a)
    lt_or_le a b = grind arith

    by : (n < 10 ^ 10) ⊎ (10 ^ 10 ≤ n) → n ≡ m
    by (inl lt) = decimal_injective n m (omega arith) (omega arith) e
    by (inr le) = let l = ap length e in let long = long_decimal n le in let short = length-decimal-le 10 m (omega arith) (omega arith) (omega arith) in absurd (omega arith)
