-- What is among the items of a list, and what some of them have.
use Rattle.std.proofs.Common.{◌≡◌, ℕ, zero, suc, ◌+◌, ◌<◌, ◌≤◌, ◌⊎◌, ◌↔◌, inl, inr, Bool, true, false, cond, not, ◌||◌, ◌&&◌, List, [], ◌∷◌, ◌++◌, Contains, map, length, nat_eq, refl, sym, ap, ◌∙◌, subst, arith}
use Rattle.std.specs.List.{list_any}
use Rattle.std.proofs.lemmas.Bool.{false≢true, eqb-true, eq-eqb}
use Rattle.rdf_terms.proofs.Members.{in_first, in_rest, in_cases, in_none}
use Rattle.digraph.specs.Walk.{IsWalk}
use Rattle.shapes_profile.specs.Logic.{SomeOf, EachOf}

-- whether the number is in the list
abbrev pub has_number : List ℕ → ℕ → Bool
has_number zs y = list_any (λ z. nat_eq y z) zs

pub both_left : (a b : Bool) → (a && b) ≡ true → a ≡ true
both_left true b e = refl
both_left false b e = e

pub both_right : (a b : Bool) → (a && b) ≡ true → b ≡ true
both_right true b e = e
both_right false b e = absurd (false≢true e)

pub both : (a b : Bool) → a ≡ true → b ≡ true → (a && b) ≡ true
both a b e f = ap (λ c. c && b) e ∙ f

pub or_right : (a b : Bool) → b ≡ true → (a || b) ≡ true
or_right true b e = refl
or_right false b e = e

pub or_cases : (a b : Bool) → (a || b) ≡ true → (a ≡ true) ⊎ (b ≡ true)
or_cases true b e = inl refl
or_cases false b e = inr e

pub some_in : (P : ℕ → Type 0) (zs : List ℕ) (z : ℕ) → has_number zs z ≡ true → P z → SomeOf P zs
some_in P [] z h p = absurd (false≢true h)
some_in P (u ∷ us) z h p = at (or_cases _ _ h) (λ e. some_in P us z e p)
  where
    at : (nat_eq z u ≡ true) ⊎ (has_number us z ≡ true) → (has_number us z ≡ true → SomeOf P us) → SomeOf P (u ∷ us)
    at (inl e) more = inl (subst P (eqb-true z u e) p)
    at (inr e) more = inr (more e)

pub some_out : (P : ℕ → Type 0) (zs : List ℕ) → SomeOf P zs → (z : ℕ) × (has_number zs z ≡ true) × P z
some_out P [] h = absurd h
some_out P (u ∷ us) h = at h (λ k. some_out P us k)
  where
    at : P u ⊎ SomeOf P us → (SomeOf P us → (z : ℕ) × (has_number us z ≡ true) × P z) → (z : ℕ) × (has_number (u ∷ us) z ≡ true) × P z
    at (inl p) more = (u, ap (λ b. b || has_number us u) (eq-eqb u u refl), p)
    at (inr k) more = let r = more k in (r.0, or_right _ _ r.1, r.2)

pub some_map : {Y : Type 0} (P : Y → Type 0) (f : ℕ → Y) (zs : List ℕ) → SomeOf (λ z. P (f z)) zs ↔ SomeOf P (map f zs)
some_map P f [] = (λ h. h, λ h. h)
some_map P f (z ∷ zs) = let r = some_map P f zs in (to r.0, from r.1)
  where
    to : (SomeOf (λ z. P (f z)) zs → SomeOf P (map f zs)) → P (f z) ⊎ SomeOf (λ z. P (f z)) zs → P (f z) ⊎ SomeOf P (map f zs)
    to more (inl p) = inl p
    to more (inr k) = inr (more k)

    from : (SomeOf P (map f zs) → SomeOf (λ z. P (f z)) zs) → P (f z) ⊎ SomeOf P (map f zs) → P (f z) ⊎ SomeOf (λ z. P (f z)) zs
    from more (inl p) = inl p
    from more (inr k) = inr (more k)

pub some_weaker : {X : Type 0} (P Q : X → Type 0) → ((x : X) → P x → Q x) → (xs : List X) → SomeOf P xs → SomeOf Q xs
some_weaker P Q f [] h = h
some_weaker P Q f (x ∷ xs) h = at h (λ k. some_weaker P Q f xs k)
  where
    at : P x ⊎ SomeOf P xs → (SomeOf P xs → SomeOf Q xs) → SomeOf Q (x ∷ xs)
    at (inl p) more = inl (f x p)
    at (inr k) more = inr (more k)

-- the same, said of the items
pub number_in : (zs : List ℕ) (y : ℕ) → has_number zs y ≡ true → Contains zs y
number_in [] y h = absurd (false≢true h)
number_in (u ∷ us) y h = at (or_cases _ _ h) (λ k. number_in us y k)
  where
    at : (nat_eq y u ≡ true) ⊎ (has_number us y ≡ true) → (has_number us y ≡ true → Contains us y) → Contains (u ∷ us) y
    at (inl e) more = subst (λ v. Contains (u ∷ us) v) (sym (eqb-true y u e)) (in_first u us)
    at (inr k) more = in_rest u us y (more k)

pub in_number : (zs : List ℕ) (y : ℕ) → Contains zs y → has_number zs y ≡ true
in_number [] y c = absurd (in_none y c)
in_number (u ∷ us) y c = at (in_cases u us y c) (λ k. in_number us y k)
  where
    at : (u ≡ y) ⊎ Contains us y → (Contains us y → has_number us y ≡ true) → has_number (u ∷ us) y ≡ true
    at (inl e) more = ap (λ b. b || has_number us y) (eq-eqb y u (sym e))
    at (inr k) more = or_right _ _ (more k)

module _ {X : Type 0} (R : X → X → Type 0) where
  -- the last step of a walk that has one
  pub last_step : (zs : List X) (x y : X) → IsWalk R zs x y → 0 < length zs → (z : X) × (us : List X) × (length us + 1 ≡ length zs) × IsWalk R us x z × R z y
  last_step [] x y w l = absurd (omega (arith, l))
  last_step (u ∷ []) x y w l = (x, [], omega arith, refl, subst (R x) w.1 w.0)
  last_step (u ∷ v ∷ vs) x y w l =
      let r = last_step (v ∷ vs) u y w.1 (omega arith) in
      let e = r.2 in
      (r.0, u ∷ r.1, omega arith, (w.0, r.3), r.4)

pub walk_map : {X : Type 0} (R S : X → X → Type 0) → ((u v : X) → R u v → S u v) → (zs : List X) (x y : X) → IsWalk R zs x y → IsWalk S zs x y
walk_map R S f [] x y w = w
walk_map R S f (z ∷ zs) x y w = (f x z w.0, walk_map R S f zs z y w.1)
