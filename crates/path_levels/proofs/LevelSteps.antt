-- A walk of one step more, or none: from one level of a repeated path to the next.
use Rattle.std.proofs.Common.{◌≡◌, ℕ, zero, suc, ◌+◌, ◌<◌, ◌≤◌, ◌⊎◌, ◌↔◌, inl, inr, List, [], ◌∷◌, ◌++◌, length, refl, ap, subst, arith}
use Rattle.digraph.specs.Walk.{IsWalk}
use Rattle.digraph.proofs.WalkLaws.{walk_more}
use Rattle.path_levels.proofs.Choices.{last_step}

le_or_lt : (a b : ℕ) → (a ≤ b) ⊎ (b < a)
le_or_lt a b = grind arith

pub iff_trans : {A B C : Type 0} → A ↔ B → B ↔ C → A ↔ C
iff_trans f g = (λ a. g.0 (f.0 a), λ c. f.1 (g.1 c))

-- a walk of one step more, or none
module _ {X : Type 0} (R : X → X → Type 0) where
  pub star_step : (k : ℕ) (x y : X) → ((w : List X) × (length w ≤ suc k) × IsWalk R w x y)
      ↔ (((w : List X) × (length w ≤ k) × IsWalk R w x y) ⊎ ((z : X) × ((w : List X) × (length w ≤ k) × IsWalk R w x z) × R z y))
  star_step k x y = (to, from)
    where
      to : ((w : List X) × (length w ≤ suc k) × IsWalk R w x y) → ((w : List X) × (length w ≤ k) × IsWalk R w x y) ⊎ ((z : X) × ((w : List X) × (length w ≤ k) × IsWalk R w x z) × R z y)
      to h = at (le_or_lt (length h.0) k)
        where
          at : (length h.0 ≤ k) ⊎ (k < length h.0) → ((w : List X) × (length w ≤ k) × IsWalk R w x y) ⊎ ((z : X) × ((w : List X) × (length w ≤ k) × IsWalk R w x z) × R z y)
          at (inl l) = inl (h.0, l, h.2)
          at (inr l) =
              let m = h.1 in
              let r = last_step R h.0 x y h.2 (omega arith) in
              let e = r.2 in
              inr (r.0, (r.1, omega arith, r.3), r.4)

      from : ((w : List X) × (length w ≤ k) × IsWalk R w x y) ⊎ ((z : X) × ((w : List X) × (length w ≤ k) × IsWalk R w x z) × R z y) → (w : List X) × (length w ≤ suc k) × IsWalk R w x y
      from (inl h) = let l = h.1 in (h.0, omega arith, h.2)
      from (inr h) =
          let l = h.1.1 in
          (h.1.0 ++ y ∷ [], grind (arith, length_more h.1.0 y, l), walk_more R h.1.0 x h.0 y h.1.2 h.2)
        where
          length_more : (w : List X) (y : X) → length (w ++ y ∷ []) ≡ suc (length w)
          length_more [] y = refl
          length_more (u ∷ us) y = ap (λ n. suc n) (length_more us y)

  pub plus_step : (k : ℕ) (x y : X) → ((w : List X) × (0 < length w) × (length w ≤ suc k + 1) × IsWalk R w x y)
      ↔ (((w : List X) × (0 < length w) × (length w ≤ k + 1) × IsWalk R w x y) ⊎ ((z : X) × ((w : List X) × (0 < length w) × (length w ≤ k + 1) × IsWalk R w x z) × R z y))
  plus_step k x y = (to, from)
    where
      to : ((w : List X) × (0 < length w) × (length w ≤ suc k + 1) × IsWalk R w x y) → ((w : List X) × (0 < length w) × (length w ≤ k + 1) × IsWalk R w x y) ⊎ ((z : X) × ((w : List X) × (0 < length w) × (length w ≤ k + 1) × IsWalk R w x z) × R z y)
      to h = at (le_or_lt (length h.0) (k + 1))
        where
          at : (length h.0 ≤ k + 1) ⊎ (k + 1 < length h.0) → ((w : List X) × (0 < length w) × (length w ≤ k + 1) × IsWalk R w x y) ⊎ ((z : X) × ((w : List X) × (0 < length w) × (length w ≤ k + 1) × IsWalk R w x z) × R z y)
          at (inl l) = inl (h.0, h.1, l, h.3)
          at (inr l) =
              let m = h.2 in
              let r = last_step R h.0 x y h.3 (omega arith) in
              let e = r.2 in
              inr (r.0, (r.1, omega arith, omega arith, r.3), r.4)

      from : ((w : List X) × (0 < length w) × (length w ≤ k + 1) × IsWalk R w x y) ⊎ ((z : X) × ((w : List X) × (0 < length w) × (length w ≤ k + 1) × IsWalk R w x z) × R z y) → (w : List X) × (0 < length w) × (length w ≤ suc k + 1) × IsWalk R w x y
      from (inl h) = let l = h.2 in (h.0, h.1, omega arith, h.3)
      from (inr h) =
          let l = h.1.2 in
          (h.1.0 ++ y ∷ [], grind (arith, length_more h.1.0 y), grind (arith, length_more h.1.0 y, l), walk_more R h.1.0 x h.0 y h.1.3 h.2)
        where
          length_more : (w : List X) (y : X) → length (w ++ y ∷ []) ≡ suc (length w)
          length_more [] y = refl
          length_more (u ∷ us) y = ap (λ n. suc n) (length_more us y)

  pub one_step : (x y : X) → ((w : List X) × (0 < length w) × (length w ≤ 0 + 1) × IsWalk R w x y) ↔ R x y
  one_step x y = (λ h. to h.0 h.1 h.2 h.3, λ r. (y ∷ [], omega arith, omega arith, (r, refl)))
    where
      to : (w : List X) → 0 < length w → length w ≤ 0 + 1 → IsWalk R w x y → R x y
      to [] l m h = absurd (omega arith)
      to (z ∷ []) l m h = subst (R x) h.1 h.0
      to (z ∷ u ∷ us) l m h = absurd (omega arith)
