-- Walks one behind the other and walks turned round, and which items of a list have a property.
use Rattle.std.proofs.Common.{◌≡◌, ◌⊎◌, inl, inr, ℕ, zero, suc, ◌<◌, List, [], ◌∷◌, ◌++◌, length, Some, None, slice_get, refl, sym, subst, arith}
use Rattle.digraph.specs.Walk.{IsWalk}
use Rattle.digraph.proofs.WalkLaws.{walk_more}
use Rattle.rdf_navigation.proofs.InstanceLaws.{walk_turned}
use Rattle.shapes_profile.specs.Logic.{SomeOf}
use Rattle.path_eval.specs.declared.direction.Direction.{Direction}
use Rattle.path_eval.specs.declared.direction.Direction.TheVariants.{Forward, Backward}
use Rattle.path_eval.specs.Directions.{Towards, turned, ordered}

pub walk_on : {X : Type 0} (R : X → X → Type 0) (us vs : List X) (x y z : X) → IsWalk R us x y → IsWalk R vs y z → IsWalk R (us ++ vs) x z
walk_on R [] vs x y z w v = subst (λ u. IsWalk R vs u z) (sym w) v
walk_on R (u ∷ us) vs x y z w v = (w.0, walk_on R us vs u y z w.1 v)

-- one of the list is at a place
pub some_place : {X : Type 0} (P : X → Type 0) (xs : List X) → SomeOf P xs → (i : ℕ) × (i < length xs) × ((x : X) × (slice_get xs i ≡ Some x) × P x)
some_place P [] s = absurd s
some_place {X} P (x ∷ xs) s = at s (λ r. some_place P xs r)
  where
    at : P x ⊎ SomeOf P xs → (SomeOf P xs → (i : ℕ) × (i < length xs) × ((y : X) × (slice_get xs i ≡ Some y) × P y)) → (i : ℕ) × (i < length (x ∷ xs)) × ((y : X) × (slice_get (x ∷ xs) i ≡ Some y) × P y)
    at (inl p) more = (0, omega arith, (x, refl, p))
    at (inr r) more = let m = more r in let l = m.1 in (suc m.0, omega (arith, l), m.2)

pub some_at : {X : Type 0} (P : X → Type 0) (xs : List X) (i : ℕ) (x : X) → slice_get xs i ≡ Some x → P x → SomeOf P xs
some_at P [] i x e p = absurd (let z : None ≡ Some x = e in cc)
some_at P (y ∷ ys) zero x e p = inl (let z : y ≡ x = cc in subst P (sym z) p)
some_at P (y ∷ ys) (suc i) x e p = inr (some_at P ys i x e p)

-- the middle of a sequence
pub middle : {X : Type 0} (A : ℕ → X → X → Type 0) (d : Direction) (a b : ℕ) (x y : X) → Towards d (λ u v. (z : X) × A a u z × A b z v) x y → (z : X) × Towards d (A (ordered d a b).0) x z × Towards d (A (ordered d a b).1) z y
middle A Forward a b x y r = r
middle A Backward a b x y r = (r.0, r.2, r.1)

pub from_middle : {X : Type 0} (A : ℕ → X → X → Type 0) (d : Direction) (a b : ℕ) (x y z : X) → Towards d (A (ordered d a b).0) x z → Towards d (A (ordered d a b).1) z y → Towards d (λ u v. (z : X) × A a u z × A b z v) x y
from_middle A Forward a b x y z r s = (z, r, s)
from_middle A Backward a b x y z r s = (z, s, r)

module _ {X : Type 0} (R : X → X → Type 0) where
  pub turn : (d : Direction) (x y : X) → Towards d (λ u v. R v u) x y → Towards (turned d) R x y
  turn Forward x y r = r
  turn Backward x y r = r

  pub turn_back : (d : Direction) (x y : X) → Towards (turned d) R x y → Towards d (λ u v. R v u) x y
  turn_back Forward x y r = r
  turn_back Backward x y r = r

  pub either : (d : Direction) (x y : X) → Towards d (λ u v. (u ≡ v) ⊎ R u v) x y → (x ≡ y) ⊎ Towards d R x y
  either Forward x y r = r
  either Backward x y (inl e) = inl (sym e)
  either Backward x y (inr r) = inr r

  pub from_either : (d : Direction) (x y : X) → (x ≡ y) ⊎ Towards d R x y → Towards d (λ u v. (u ≡ v) ⊎ R u v) x y
  from_either Forward x y r = r
  from_either Backward x y (inl e) = inl (sym e)
  from_either Backward x y (inr r) = inr r

  pub star : (d : Direction) (x y : X) → Towards d (λ u v. (w : List X) × IsWalk R w u v) x y → (w : List X) × IsWalk (Towards d R) w x y
  star Forward x y r = r
  star Backward x y r = walk_turned R (λ a b. R b a) (λ a b h. h) r.0 y x r.1

  pub from_star : (d : Direction) (x y : X) (w : List X) → IsWalk (Towards d R) w x y → Towards d (λ u v. (w : List X) × IsWalk R w u v) x y
  from_star Forward x y w r = (w, r)
  from_star Backward x y w r = walk_turned (λ a b. R b a) R (λ a b h. h) w x y r

  -- a walk of one step or more, its first step taken off
  pub plus : (d : Direction) (x y : X) → Towards d (λ u v. (w : List X) × (0 < length w) × IsWalk R w u v) x y → (z : X) × Towards d R x z × ((w : List X) × IsWalk (Towards d R) w z y)
  plus Forward x y r = at r.0 r.1 r.2
    where
      at : (w : List X) → 0 < length w → IsWalk R w x y → (z : X) × R x z × ((w : List X) × IsWalk R w z y)
      at [] l h = absurd (omega (arith, l))
      at (z ∷ zs) l h = (z, h.0, (zs, h.1))
  plus Backward x y r = at r.0 r.1 r.2
    where
      by : (z : X) (us : List X) → R y z → IsWalk (λ a b. R b a) us x z → (u : X) × R u x × ((w : List X) × IsWalk (λ a b. R b a) w u y)
      by z [] s h = (y, subst (R y) (sym h) s, ([], refl))
      by z (u ∷ us) s h = (u, h.0, (us ++ y ∷ [], walk_more (λ a b. R b a) us u z y h.1 s))

      at : (w : List X) → 0 < length w → IsWalk R w y x → (u : X) × R u x × ((w : List X) × IsWalk (λ a b. R b a) w u y)
      at [] l h = absurd (omega (arith, l))
      at (z ∷ zs) l h = let t = walk_turned R (λ a b. R b a) (λ a b k. k) zs z x h.1 in by z t.0 h.0 t.1

  pub from_plus : (d : Direction) (x y z : X) (w : List X) → Towards d R x z → IsWalk (Towards d R) w z y → Towards d (λ u v. (w : List X) × (0 < length w) × IsWalk R w u v) x y
  from_plus Forward x y z w s h = (z ∷ w, omega arith, (s, h))
  from_plus Backward x y z w s h = at t.0 t.1
    where
      t : (us : List X) × IsWalk R us y z
      t = walk_turned (λ a b. R b a) R (λ a b k. k) w z y h

      at : (us : List X) → IsWalk R us y z → (w : List X) × (0 < length w) × IsWalk R w y x
      at us h = (us ++ x ∷ [], longer us, walk_more R us y z x h s)
        where
          longer : (us : List X) → 0 < length (us ++ x ∷ [])
          longer [] = omega arith
          longer (u ∷ us) = omega arith

-- one of the paths, followed in a direction
pub some_towards : {X : Type 0} (R : ℕ → X → X → Type 0) (d : Direction) (qs : List ℕ) (x y : X) → Towards d (λ u v. SomeOf (λ q. R q u v) qs) x y → (i : ℕ) × (i < length qs) × ((q : ℕ) × (slice_get qs i ≡ Some q) × Towards d (R q) x y)
some_towards R Forward qs x y s = some_place (λ q. R q x y) qs s
some_towards R Backward qs x y s = some_place (λ q. R q y x) qs s

pub towards_some : {X : Type 0} (R : ℕ → X → X → Type 0) (d : Direction) (qs : List ℕ) (x y : X) (i q : ℕ) → slice_get qs i ≡ Some q → Towards d (R q) x y → Towards d (λ u v. SomeOf (λ q. R q u v) qs) x y
towards_some R Forward qs x y i q e r = some_at (λ q. R q x y) qs i q e r
towards_some R Backward qs x y i q e r = some_at (λ q. R q y x) qs i q e r

pub nothing : {X : Type 0} (d : Direction) (x y : X) → Towards d (λ u v. ⊥) x y → ⊥
nothing Forward x y r = r
nothing Backward x y r = r
