-- What a list contains, item by item.
use Rattle.std.proofs.Common.{◌≡◌, ℕ, zero, suc, ◌<◌, ◌⊎◌, inl, inr, List, [], ◌∷◌, Contains, map, length, get_or, refl, ap, arith}

module _ {X : Type 0} where
  pub Contains-none : (x : X) → Contains [] x → ⊥
  Contains-none x c = omega (arith, c.1)

  pub Contains-head : (xs : List X) (x : X) → Contains (x ∷ xs) x
  Contains-head xs x = (0, omega arith, refl)

  pub Contains-tail : (xs : List X) (x y : X) → Contains xs y → Contains (x ∷ xs) y
  Contains-tail xs x y c = (suc c.0, (let l = c.1 in omega (arith, l)), c.2)

  pub Contains-cases : (xs : List X) (x y : X) → Contains (x ∷ xs) y → (x ≡ y) ⊎ Contains xs y
  Contains-cases xs x y c = at c.0 c.1 c.2
    where
      at : (k : ℕ) → k < length (x ∷ xs) → get_or (x ∷ xs) k y ≡ y → (x ≡ y) ⊎ Contains xs y
      at zero l e = inl e
      at (suc k) l e = inr (k, omega (arith, l), e)

module _ {X Y : Type 0} (f : X → Y) where
  pub Contains-map : (xs : List X) (x : X) → Contains xs x → Contains (map f xs) (f x)
  Contains-map [] x c = absurd (Contains-none x c)
  Contains-map (z ∷ xs) x c = at (Contains-cases xs z x c) (λ d. Contains-map xs x d)
    where
      at : (z ≡ x) ⊎ Contains xs x → (Contains xs x → Contains (map f xs) (f x)) → Contains (f z ∷ map f xs) (f x)
      at (inl e) more = (0, omega arith, ap f e)
      at (inr d) more = Contains-tail (map f xs) (f z) (f x) (more d)

  -- what the image of a list contains is the image of an item
  pub Contains-unmap : (xs : List X) (y : Y) → Contains (map f xs) y → (x : X) × Contains xs x × (f x ≡ y)
  Contains-unmap [] y c = absurd (Contains-none y c)
  Contains-unmap (z ∷ xs) y c = at (Contains-cases (map f xs) (f z) y c) (λ d. Contains-unmap xs y d)
    where
      at : (f z ≡ y) ⊎ Contains (map f xs) y → (Contains (map f xs) y → (x : X) × Contains xs x × (f x ≡ y)) → (x : X) × Contains (z ∷ xs) x × (f x ≡ y)
      at (inl e) more = (z, Contains-head xs z, e)
      at (inr d) more = let m = more d in (m.0, Contains-tail xs z m.0 m.1, m.2)
