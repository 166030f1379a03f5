-- Two functions that agree on a list of all values agree.
use Rattle.std.proofs.Common.{◌≡◌, ℕ, zero, suc, List, [], ◌∷◌, refl, sym, ap, ◌∙◌}
use Rattle.std.specs.Prelude.{map}

abbrev pub nth : {A : Type 0} → A → ℕ → List A → A
nth d n [] = d
nth d zero (x ∷ xs) = x
nth d (suc n) (x ∷ xs) = nth d n xs

nth-map : {A B : Type 0} (f : A → B) (d : A) (n : ℕ) (xs : List A) → nth (f d) n (map f xs) ≡ f (nth d n xs)
nth-map f d n [] = refl
nth-map f d zero (x ∷ xs) = refl
nth-map f d (suc n) (x ∷ xs) = nth-map f d n xs

-- `place` says where in the list each value stands
pub agree : {A B : Type 0} (d : A) (xs : List A) (place : A → ℕ) → ((x : A) → nth d (place x) xs ≡ x) → (f g : A → B) → f d ≡ g d → map f xs ≡ map g xs → (x : A) → f x ≡ g x
agree {A} {B} d xs place found f g e h x =
    ap f (sym (found x)) ∙ sym (nth-map f d (place x) xs) ∙ ap (nth (f d) (place x)) h ∙ ap (λ (b : B). nth b (place x) (map g xs)) e ∙ nth-map g d (place x) xs ∙ ap g (found x)
