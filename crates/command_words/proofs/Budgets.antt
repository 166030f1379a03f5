-- The budget that a text spells.
use Rattle.std.proofs.Common.{◌≡◌, ℕ, ◌<◌, ◌≤◌, ◌^◌, Bool, true, false, ◌&&◌, List, Option, None, Some, cond, ltb, decimal, refl, sym, ap, ◌∙◌, arith}
use Rattle.std.specs.Str.{bytes_eq}
use Rattle.std.specs.Str.Parse.{digits_value}
use Rattle.std.proofs.lemmas.Bool.{lt-ltb, ltb-true}
use Rattle.std.proofs.lemmas.Fmt.{decimal_is_IsNumeral}
use Rattle.std.proofs.lemmas.Slice.Eq.{bytes_eq-Decides}
use Rattle.command_words.specs.Words.{spelled_budget, budget_of}

all_true : (a b c : Bool) (n : ℕ) → a ≡ true → b ≡ true → c ≡ true → cond (a && b && c) (Some n) None ≡ Some n
all_true a b c n x y z = rw (x, y, z) refl

not_all : (a b c : Bool) (n : ℕ) → (a ≡ true → b ≡ true → c ≡ true → ⊥) → cond (a && b && c) (Some n) None ≡ None
not_all true true true n h = absurd (h refl refl refl)
not_all true true false n h = refl
not_all true false c n h = refl
not_all false b c n h = refl

-- what the text spells
value : (text : List ℕ) (n : ℕ) → n < 2 ^ 64 → text ≡ decimal n → digits_value 10 text ≡ n
value text n small is = ap (digits_value 10) is ∙ (decimal_is_IsNumeral n small).1

pub spells_budget : (text : List ℕ) (n : ℕ) → text ≡ decimal n → 0 < n → n < 2 ^ 63 → budget_of text ≡ Some n
spells_budget text n is some small =
    ap (spelled_budget text) (value text n (omega arith) is)
    ∙ all_true (bytes_eq text (decimal n)) (ltb 0 n) (ltb n (2 ^ 63)) n ((bytes_eq-Decides text (decimal n)).1 is) (lt-ltb 0 n some) (lt-ltb n (2 ^ 63) small)

pub spells_other : (text : List ℕ) (n : ℕ) → n < 2 ^ 64 → text ≡ decimal n → (0 < n → n < 2 ^ 63 → ⊥) → budget_of text ≡ None
spells_other text n small is other =
    ap (spelled_budget text) (value text n small is)
    ∙ not_all (bytes_eq text (decimal n)) (ltb 0 n) (ltb n (2 ^ 63)) n (λ same some below. other (ltb-true 0 n some) (ltb-true n (2 ^ 63) below))
