-- Tags that begin with a language range and a dash.
use Rattle.std.proofs.Common.{◌≡◌, ℕ, ◌<◌, Bool, true, false, ◌&&◌, List, [], ◌∷◌, ◌++◌, length, get_or, take, sym, ap, ◌∙◌, arith}
use Rattle.std.specs.Prelude.{codes, nat_eq}
use Rattle.std.specs.List.{starts_with}
use Rattle.std.specs.Char.{to_ascii_lowercase}
use Rattle.std.specs.Str.{str_eq_ignore_ascii_case, str_to_ascii_lowercase}
use Rattle.std.proofs.lemmas.Bool.Decides.{nat_tests}

dash : (c : ℕ) → nat_eq c 45 ≡ nat_eq 45 (to_ascii_lowercase c)
dash c = grind (arith, nat_tests)

turned : (a b : ℕ) → nat_eq a b ≡ nat_eq b a
turned a b = grind (arith, nat_tests)

regrouped : (a b d f e : Bool) → b ≡ f → (a && d) ≡ e → (a && (b && d)) ≡ (f && e)
regrouped true true d f e p q = q ∙ ap (λ x. x && e) p
regrouped true false d f e p q = ap (λ x. x && e) p
regrouped false true d f e p q = q ∙ ap (λ x. x && e) p
regrouped false false d f e p q = ap (λ x. x && e) p

-- the tag begins with the range and a dash
abbrev pub begins : List ℕ → List ℕ → Bool
begins tag range = starts_with nat_eq (str_to_ascii_lowercase tag) (str_to_ascii_lowercase range ++ codes "-")

pub narrower : (tag range : List ℕ) → length range < length tag → (nat_eq (get_or tag (length range) 0) 45 && str_eq_ignore_ascii_case (take (length range) tag) range) ≡ begins tag range
narrower [] [] lt = absurd (omega (arith, lt))
narrower (c ∷ cs) [] lt = ap (λ b. b && true) (dash c)
narrower [] (x ∷ xs) lt = absurd (omega (arith, lt))
narrower (c ∷ cs) (x ∷ xs) lt = regrouped _ _ _ _ _ (turned (to_ascii_lowercase c) (to_ascii_lowercase x)) (narrower cs xs (omega (arith, lt)))

pub no_dash : (c : ℕ) (b : Bool) → (c ≡ 45 → ⊥) → nat_eq c 45 ≡ (nat_eq c 45 && b)
no_dash c b h = let e : nat_eq c 45 ≡ false = grind (arith, nat_tests) in e ∙ sym (ap (λ (a : Bool). a && b) e)
