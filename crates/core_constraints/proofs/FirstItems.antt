-- What loops over lists keep of the first items, and what holds at their end.
use Rattle.std.proofs.Common.{◌≡◌, ℕ, zero, suc, ◌+◌, ◌≤◌, ◌↔◌, Bool, true, false, not, cond, List, [], ◌∷◌, length, map, take, Contains, Some, slice_get, ◌==◌, subst, ◌⊎◌, inl, inr, arith}
use Rattle.std.specs.Ordering.{nat_cmp}
use Rattle.std.specs.FinMap.{IsAntisymmetric}
use Rattle.std.specs.declared.cmp.Ordering.{Ordering}
use Rattle.std.specs.Cmp.{IsTotalOrder}
use Rattle.shapes_profile.specs.Logic.{EachOf, SomeOf, NoneFails, AtLeast}
use Rattle.core_constraints.specs.Decisions.{Says, Exactly}
use Rattle.core_constraints.proofs.Decided.{Distinct, no_false, says_of, each_at, none_some, none_each, take_whole}
use Rattle.core_constraints.proofs.CountLaws.{First, exactly_more, exactly_same, exactly_least}

more_mapped : {X Y : Type 0} (f : X → Y) (P : Y → Type 0) (xs : List X) (i : ℕ) (x : X) → slice_get xs i ≡ Some x → P (f x) → EachOf P (map f (take i xs)) → EachOf P (map f (take (suc i) xs))
more_mapped f P [] i x e p h = cc
more_mapped f P (y ∷ ys) zero x e p h = let d : x ≡ y = cc in (subst (λ z. P (f z)) d p, tt)
more_mapped f P (y ∷ ys) (suc i) x e p h = (h.0, more_mapped f P ys i x e p h.1)

more_item : {X : Type 0} (P : X → Type 0) (xs : List X) (i : ℕ) (x : X) → slice_get xs i ≡ Some x → P x → EachOf P (take i xs) → EachOf P (take (suc i) xs)
more_item P [] i x e p h = cc
more_item P (y ∷ ys) zero x e p h = let d : x ≡ y = cc in (subst P d p, tt)
more_item P (y ∷ ys) (suc i) x e p h = (h.0, more_item P ys i x e p h.1)

module _ {X : Type 0} (P : X → Type 0) (xs : List X) (i : ℕ) where
  -- of all the first items and of one more
  pub each_more : (x : X) → slice_get xs i ≡ Some x → P x → EachOf P (take i xs) → EachOf P (take (i + 1) xs)
  each_more x e p h = let q : suc i ≡ i + 1 = omega arith in subst (λ m. EachOf P (take m xs)) q (more_item P xs i x e p h)

  pub each_whole : length xs ≤ i → EachOf P (take i xs) → EachOf P xs
  each_whole le h = subst (EachOf P) (take_whole xs i le) h

module _ {X Y : Type 0} (f : X → Y) (P : Y → Type 0) (xs : List X) (i : ℕ) where
  -- the same of what they are mapped to
  pub mapped_more : (x : X) → slice_get xs i ≡ Some x → P (f x) → EachOf P (map f (take i xs)) → EachOf P (map f (take (i + 1) xs))
  mapped_more x e p h = let q : suc i ≡ i + 1 = omega arith in subst (λ m. EachOf P (map f (take m xs))) q (more_mapped f P xs i x e p h)

  pub mapped_whole : length xs ≤ i → EachOf P (map f (take i xs)) → EachOf P (map f xs)
  mapped_whole le h = subst (λ ys. EachOf P (map f ys)) (take_whole xs i le) h

pub none_fails : {X : Type 0} (P : X → Type 0) (xs : List X) → EachOf P xs → NoneFails (Contains xs) P
none_fails P xs all bad = bad.2 (each_at P xs bad.0 all bad.1)

-- counting
pub exactly_step : {K : Type 0} {R : K → K → Ordering} (o : IsTotalOrder R) (ties : IsAntisymmetric R) (xs : List K) (F : K → Type 0) (j n : ℕ) (z : K) (b : Bool) → Distinct xs → slice_get xs j ≡ Some z → Says b (F z)
    → Exactly R (First xs F j) n → Exactly R (First xs F (j + 1)) (cond b (n + 1) n)
exactly_step {R = R} o ties xs F j n z true once e f h = let p : suc j ≡ j + 1 = omega arith in subst (λ m. Exactly R (First xs F m) (n + 1)) p (exactly_more o ties xs F j n z once e f h)
exactly_step {R = R} o ties xs F j n z false once e f h = let p : suc j ≡ j + 1 = omega arith in subst (λ m. Exactly R (First xs F m) n) p (exactly_same o ties xs F j n z e f h)

pub exactly_whole : {K : Type 0} {R : K → K → Ordering} (xs : List K) (F : K → Type 0) (j n : ℕ) → length xs ≤ j → Exactly R (First xs F j) n → Exactly R (λ y. Contains xs y × F y) n
exactly_whole {R = R} xs F j n le h = subst (λ ys. Exactly R (λ y. Contains ys y × F y) n) (take_whole xs j le) h

pub count_bound : (b : Bool) (n i : ℕ) → n ≤ i → cond b (n + 1) n ≤ i + 1
count_bound true n i le = omega arith
count_bound false n i le = omega arith

-- exactly one
eqb_one : (n : ℕ) → ((n == 1) ≡ true) ↔ (n ≡ 1)
eqb_one n = (λ h. grind arith, λ h. grind arith)

above : (n : ℕ) → n ≡ 1 → 2 ≤ n → ⊥
above n k l = omega arith

at_one : (n : ℕ) → 1 ≤ n → (n ≡ 1) ⊎ (2 ≤ n)
at_one n l = grind arith

only : (n : ℕ) → 1 ≤ n → ¬ (2 ≤ n) → n ≡ 1
only n l never = pick (at_one n l)
  where
    pick : (n ≡ 1) ⊎ (2 ≤ n) → n ≡ 1
    pick (inl e) = e
    pick (inr g) = absurd (never g)

pub one_says : (P : ℕ → Type 0) (n : ℕ) → Exactly nat_cmp P n → Says (n == 1) (AtLeast nat_cmp P 1 × ¬ (AtLeast nat_cmp P 2))
one_says P n h =
    let one = exactly_least P n 1 h in
    let two = exactly_least P n 2 h in
    let is = eqb_one n in
    says_of (n == 1) _ (λ e. let k = is.0 e in (one.1 (omega arith), λ g. above n k (two.0 g))) (λ e g. no_false (n == 1) (is.1 (only n (one.0 g.0) (λ l. g.1 (two.1 l)))) e)

-- this shape and none of the siblings
pub qualified_says : (C : ℕ → Type 0) (u : ℕ) (us : List ℕ) → C u → (b : Bool) → Says b (SomeOf C us) → Says (not b) (C u × EachOf (λ v. ¬ (C v)) us)
qualified_says C u us c true h = λ k. none_some C us k.1 h
qualified_says C u us c false h = (c, none_each C us h)
