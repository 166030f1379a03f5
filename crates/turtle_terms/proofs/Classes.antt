-- What a class of characters passes another passes too: each character of ASCII is tried.
use Rattle.std.proofs.Common.{◌≡◌, ℕ, zero, suc, ◌<◌, ◌≤◌, Bool, true, false, not, nat_lt, refl, ap, ◌∙◌, arith}
use Rattle.std.specs.Prelude.{◌==◌, ◌&&◌, ◌||◌}
use Rattle.std.proofs.lemmas.Bool.{eqb-true, ne_eqb, ltb-true, ltb-false, false≢true}
use Rattle.std.proofs.lemmas.Bool.Decides.{nat_tests}
use Rattle.grammar_forms.proofs.Loops.{and_both}

abbrev pub all_below : ℕ → (ℕ → Bool) → Bool
all_below zero p = true
all_below (suc n) p = p n && all_below n p

last_by : (n c : ℕ) (b : Bool) → (c == n) ≡ b → c < suc n → (p : ℕ → Bool) → p n ≡ true → (c < n → p c ≡ true) → p c ≡ true
last_by n c true e l p h k = ap p (eqb-true c n e) ∙ h
last_by n c false e l p h k = k (differs e)
  where
    differs : (c == n) ≡ false → c < n
    differs f = grind (arith, nat_tests)

pub below_is : (n : ℕ) (p : ℕ → Bool) → all_below n p ≡ true → (c : ℕ) → c < n → p c ≡ true
below_is zero p h c l = absurd (omega (arith, l))
below_is (suc n) p h c l = let k = and_both (p n) (all_below n p) h in last_by n c (c == n) refl l p k.0 (below_is n p k.1 c)

pub passed : (a b : Bool) → a ≡ true → (not a || b) ≡ true → b ≡ true
passed true b e h = h
passed false b e h = absurd (false≢true e)

-- a character of the first is one of the second
abbrev pub within : (ℕ → Bool) → (ℕ → Bool) → ℕ → Bool
within p q c = not (p c) || q c

class_by : (p q : ℕ → Bool) → all_below 128 (within p q) ≡ true → (c : ℕ) → (128 ≤ c → q c ≡ true) → (b : Bool) → nat_lt c 128 ≡ b → p c ≡ true → q c ≡ true
class_by p q h c wide true e k = passed (p c) (q c) k (below_is 128 (within p q) h c (ltb-true c 128 e))
class_by p q h c wide false e k = wide (ltb-false c 128 e)

pub class_within : (p q : ℕ → Bool) → all_below 128 (within p q) ≡ true → (c : ℕ) → (128 ≤ c → q c ≡ true) → p c ≡ true → q c ≡ true
class_within p q h c wide k = class_by p q h c wide (nat_lt c 128) refl k

-- beyond ASCII each character is another than one of ASCII
pub is_other : (d : ℕ) → d < 128 → (c : ℕ) → 128 ≤ c → not (c == d) ≡ true
is_other d s c l = ap not (ne_eqb c d (λ k. absurd (omega (arith, k, l, s))))
