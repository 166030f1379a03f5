-- What is in a list that was filtered, mapped or put together, and lists that are cut off.
use Rattle.std.proofs.Common.{◌≡◌, ℕ, zero, suc, ◌+◌, ◌<◌, Bool, true, false, cond, List, [], ◌∷◌, ◌++◌, map, length, get_or, take, Contains, ◌⊎◌, inl, inr, refl, sym, ap, ◌∙◌, arith}
use Rattle.std.proofs.lemmas.Bool.{false≢true}
use Rattle.std.specs.List.{filter, flat_map}
use Rattle.std.proofs.lemmas.List.Elements.{Contains-append_left, Contains-append_right, Contains-append_cases}

pub take_next : {X : Type 0} (xs : List X) (i : ℕ) (x : X) → i < length xs → x ≡ get_or xs i x → take (i + 1) xs ≡ take i xs ++ x ∷ []
take_next [] i x lt e = absurd (omega arith)
take_next (y ∷ ys) zero x lt e = ap (λ z. z ∷ []) (sym e)
take_next (y ∷ ys) (suc i) x lt e = let n : suc i + 1 ≡ suc (i + 1) = omega arith in rw n (ap (λ zs. y ∷ zs) (take_next ys i x (omega arith) e))

module _ {X : Type 0} where
  pub in_none : (x : X) → ¬ (Contains [] x)
  in_none x h = let l = h.1 in absurd (omega arith)

  pub in_first : (x : X) (xs : List X) → Contains (x ∷ xs) x
  in_first x xs = (0, omega arith, refl)

  pub in_rest : (y : X) (xs : List X) (x : X) → Contains xs x → Contains (y ∷ xs) x
  in_rest y xs x h = let l = h.1 in (suc h.0, omega arith, h.2)

  pub in_cases : (y : X) (xs : List X) (x : X) → Contains (y ∷ xs) x → (y ≡ x) ⊎ Contains xs x
  in_cases y xs x h = by h.0 h.1 h.2
    where
      by : (k : ℕ) → k < length (y ∷ xs) → get_or (y ∷ xs) k x ≡ x → (y ≡ x) ⊎ Contains xs x
      by zero l e = inl e
      by (suc k) l e = inr (k, omega arith, e)

  pub in_filter : (p : X → Bool) (xs : List X) (x : X) → Contains xs x → p x ≡ true → Contains (filter p xs) x
  in_filter p [] x h e = h
  in_filter p (y ∷ xs) x h e = split (in_cases y xs x h) (λ k. in_filter p xs x k e) (p y) refl
    where
      split : (y ≡ x) ⊎ Contains xs x → (Contains xs x → Contains (filter p xs) x) → (b : Bool) → p y ≡ b → Contains (cond b (y ∷ filter p xs) (filter p xs)) x
      split (inl same) on true k = (0, omega arith, same)
      split (inl same) on false k = absurd (false≢true (sym k ∙ ap p same ∙ e))
      split (inr rest) on true k = in_rest y (filter p xs) x (on rest)
      split (inr rest) on false k = on rest

  pub filter_in : (p : X → Bool) (xs : List X) (x : X) → Contains (filter p xs) x → Contains xs x × (p x ≡ true)
  filter_in p [] x h = absurd (in_none x h)
  filter_in p (y ∷ xs) x h = split (λ k. filter_in p xs x k) (p y) refl h
    where
      later : Contains xs x × (p x ≡ true) → Contains (y ∷ xs) x × (p x ≡ true)
      later k = (in_rest y xs x k.0, k.1)

      cases : (Contains (filter p xs) x → Contains xs x × (p x ≡ true)) → p y ≡ true → (y ≡ x) ⊎ Contains (filter p xs) x → Contains (y ∷ xs) x × (p x ≡ true)
      cases on k (inl same) = ((0, omega arith, same), sym (ap p same) ∙ k)
      cases on k (inr rest) = later (on rest)

      split : (Contains (filter p xs) x → Contains xs x × (p x ≡ true)) → (b : Bool) → p y ≡ b → Contains (cond b (y ∷ filter p xs) (filter p xs)) x → Contains (y ∷ xs) x × (p x ≡ true)
      split on true k h = cases on k (in_cases y (filter p xs) x h)
      split on false k h = later (on h)

pub in_map : {X Y : Type 0} (f : X → Y) (xs : List X) (x : X) → Contains xs x → Contains (map f xs) (f x)
in_map f [] x h = absurd (in_none x h)
in_map f (y ∷ xs) x h = split (λ k. in_map f xs x k) (in_cases y xs x h)
  where
    split : (Contains xs x → Contains (map f xs) (f x)) → (y ≡ x) ⊎ Contains xs x → Contains (f y ∷ map f xs) (f x)
    split on (inl same) = (0, omega arith, ap f same)
    split on (inr rest) = in_rest (f y) (map f xs) (f x) (on rest)

pub map_in : {X Y : Type 0} (f : X → Y) (xs : List X) (y : Y) → Contains (map f xs) y → (x : X) × Contains xs x × (f x ≡ y)
map_in f [] y h = absurd (in_none y h)
map_in {X} f (x ∷ xs) y h = split (λ k. map_in f xs y k) (in_cases (f x) (map f xs) y h)
  where
    split : (Contains (map f xs) y → (z : X) × Contains xs z × (f z ≡ y)) → (f x ≡ y) ⊎ Contains (map f xs) y → (z : X) × Contains (x ∷ xs) z × (f z ≡ y)
    split on (inl same) = (x, in_first x xs, same)
    split on (inr rest) = let k = on rest in (k.0, in_rest x xs k.0 k.1, k.2)

pub in_flat_map : {X Y : Type 0} (f : X → List Y) (xs : List X) (x : X) (y : Y) → Contains xs x → Contains (f x) y → Contains (flat_map f xs) y
in_flat_map f [] x y h k = absurd (in_none x h)
in_flat_map f (z ∷ xs) x y h k = split (λ r. in_flat_map f xs x y r k) (in_cases z xs x h)
  where
    split : (Contains xs x → Contains (flat_map f xs) y) → (z ≡ x) ⊎ Contains xs x → Contains (f z ++ flat_map f xs) y
    split on (inl same) = Contains-append_left (f z) (flat_map f xs) y (rw same k)
    split on (inr rest) = Contains-append_right (f z) (flat_map f xs) y (on rest)

pub flat_map_in : {X Y : Type 0} (f : X → List Y) (xs : List X) (y : Y) → Contains (flat_map f xs) y → (x : X) × Contains xs x × Contains (f x) y
flat_map_in f [] y h = absurd (in_none y h)
flat_map_in {X} f (x ∷ xs) y h = split (λ k. flat_map_in f xs y k) (Contains-append_cases (f x) (flat_map f xs) y h)
  where
    split : (Contains (flat_map f xs) y → (z : X) × Contains xs z × Contains (f z) y) → Contains (f x) y ⊎ Contains (flat_map f xs) y → (z : X) × Contains (x ∷ xs) z × Contains (f z) y
    split on (inl first) = (x, in_first x xs, first)
    split on (inr rest) = let k = on rest in (k.0, in_rest x xs k.0 k.1, k.2)
