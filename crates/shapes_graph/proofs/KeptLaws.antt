-- What a filter keeps of the beginning of a list.
use Rattle.std.proofs.Common.{◌≡◌, ℕ, zero, suc, ◌<◌, ◌≤◌, Bool, true, false, cond, List, [], ◌∷◌, take, Option, Some, None, slice_get, refl, sym, ap, ◌∙◌, arith}
use Rattle.std.specs.List.{filter, filter_map, cons_option}

pub fails : {X : Type 0} (p : X → Bool) (x : X) → (p x ≡ true → ⊥) → p x ≡ false
fails p x h = by (p x) refl
  where
    by : (b : Bool) → p x ≡ b → b ≡ false
    by false e = refl
    by true e = absurd (h e)

-- what is kept of the items that pass a test
pub filter_map_where : {X Y : Type 0} (p : X → Bool) (f : X → Option Y) (xs : List X) → filter_map (λ (x : X). cond (p x) (f x) None) xs ≡ filter_map f (filter p xs)
filter_map_where p f [] = refl
filter_map_where {X} {Y} p f (x ∷ xs) = by (p x) (filter_map_where p f xs)
  where
    by : (b : Bool) → filter_map (λ (z : X). cond (p z) (f z) None) xs ≡ filter_map f (filter p xs)
        → cons_option (cond b (f x) None) (filter_map (λ (z : X). cond (p z) (f z) None) xs) ≡ filter_map f (cond b (x ∷ filter p xs) (filter p xs))
    by true e = ap (cons_option (f x)) e
    by false e = e

-- nothing is kept of the items before a part, or after it
pub none_before : {X Y : Type 0} (f : X → Option Y) (xs : List X) (n : ℕ) → ((i : ℕ) (x : X) → i < n → slice_get xs i ≡ Some x → f x ≡ None) → filter_map f (take n xs) ≡ []
none_before f [] zero h = refl
none_before f [] (suc n) h = refl
none_before f (x ∷ xs) zero h = refl
none_before {X} {Y} f (x ∷ xs) (suc n) h =
    ap (λ (o : Option Y). cons_option o (filter_map f (take n xs))) (h 0 x (omega arith) refl)
    ∙ none_before f xs n (λ i y l e. h (suc i) y (omega (arith, l)) e)

pub none_after : {X Y : Type 0} (f : X → Option Y) (xs : List X) (n : ℕ) → ((i : ℕ) (x : X) → n ≤ i → slice_get xs i ≡ Some x → f x ≡ None) → filter_map f (take n xs) ≡ filter_map f xs
none_after f [] zero h = refl
none_after f [] (suc n) h = refl
none_after {X} {Y} f (x ∷ xs) zero h =
    none_after f xs 0 (λ i y l e. h (suc i) y (omega arith) e)
    ∙ sym (ap (λ (o : Option Y). cons_option o (filter_map f xs)) (h 0 x (omega arith) refl))
none_after f (x ∷ xs) (suc n) h = ap (cons_option (f x)) (none_after f xs n (λ i y l e. h (suc i) y (omega (arith, l)) e))
