-- The search for the first of a list: what is known after some steps, and at the end.
use Rattle.std.proofs.Common.{◌≡◌, ℕ, ◌+◌, ◌<◌, ◌≤◌, List, length, ap, subst, sym, ◌∙◌, arith, ◌⊎◌, inl, inr}
use Rattle.std.specs.Prelude.{Some, slice_get, map, option_map}
use Rattle.std.proofs.lemmas.Option.{slice_get-map, slice_get_within}
use Rattle.std.proofs.lemmas.Bool.{cases_lt}
use Rattle.shapes_profile.specs.Logic.{IsFirst, NoneOf}

-- none of the first n has P
abbrev pub NoneBelow : {X : Type 0} → (X → Type 0) → List X → ℕ → Type 0
NoneBelow {X} P xs n = (j : ℕ) (x : X) → j < n → slice_get xs j ≡ Some x → ¬ (P x)

pub none_start : {X : Type 0} (P : X → Type 0) (xs : List X) → NoneBelow P xs 0
none_start P xs j x below = absurd (omega (arith, below))

some_same : {X : Type 0} (x y : X) → Some x ≡ Some y → x ≡ y
some_same x y e = cc

pub none_next : {X : Type 0} (P : X → Type 0) (xs : List X) (n : ℕ) (x : X) → NoneBelow P xs n → slice_get xs n ≡ Some x → ¬ (P x) → NoneBelow P xs (n + 1)
none_next {X} P xs n x before there fails j y below at = split (cases_lt j n)
  where
    split : (j < n) ⊎ (n ≤ j) → ¬ (P y)
    split (inl lt) = before j y lt at
    split (inr ge) = let e : j ≡ n = omega (arith, below, ge) in
        let g : slice_get xs n ≡ Some y = subst (λ (k : ℕ). slice_get xs k ≡ Some y) e at in
        subst (λ (z : X). ¬ (P z)) (some_same x y (sym there ∙ g)) fails

pub none_all : {X : Type 0} (P : X → Type 0) (xs : List X) (n : ℕ) → length xs ≤ n → NoneBelow P xs n → NoneOf P xs
none_all P xs n end before i x there = before i x (omega (arith, slice_get_within xs i x there, end)) there

pub first_at : {X : Type 0} (P : X → Type 0) (xs : List X) (n : ℕ) (x : X) → NoneBelow P xs n → slice_get xs n ≡ Some x → P x → IsFirst P xs x
first_at P xs n x earlier at has = record { place = n; there = at; own = has; before = earlier }

pub at_map : {X Y : Type 0} (f : X → Y) (xs : List X) (i : ℕ) (x : X) → slice_get xs i ≡ Some x → slice_get (map f xs) i ≡ Some (f x)
at_map f xs i x e = slice_get-map f xs i ∙ ap (option_map f) e
