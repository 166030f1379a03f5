-- Where labels never rise, a node whose successors all have smaller ones is on no circle.
use Rattle.std.proofs.Common.{slice_index, ◌≡◌, ℕ, ◌+◌, ◌<◌, ◌≤◌, ◌⊎◌, inl, inr, List, [], ◌∷◌, length, All, ap, subst, arith}
use Rattle.std.proofs.lemmas.Bool.{cases_lt}
use Rattle.std.proofs.lemmas.List.Elements.{All-contains, Contains-get_or}
use Rattle.digraph.specs.Walk.{IsWalk}
use Rattle.digraph.specs.Reach.{IsSuccessor, IsReached, IsOnCircle}
use Rattle.digraph.specs.Digraph.{Digraph, successors_at, targets_at}
use Rattle.digraph.specs.Labels.{NeverRise}
use Rattle.digraph.proofs.Searched.{successor_target, target_successor, target_within}

module _ (g : Digraph) (labels : List ℕ) where
  walk_falls : NeverRise g labels → (zs : List ℕ) (x y : ℕ) → IsWalk (IsSuccessor (successors_at g)) zs x y → slice_index labels y ≤ slice_index labels x
  walk_falls h [] x y w = let e = ap (slice_index labels) w in omega (arith, e)
  walk_falls h (z ∷ zs) x y w =
      let a = All-contains (λ v. slice_index labels v ≤ slice_index labels x) (targets_at g x) z (h x) (successor_target g x z w.0) in
      let b = walk_falls h zs z y w.1 in
      omega (arith, a, b)

  pub falling_no_circle : NeverRise g labels → (x : ℕ) → All (λ y. slice_index labels y < slice_index labels x) (targets_at g x) → ¬ (IsOnCircle (successors_at g) x)
  falling_no_circle h x falls c =
      let a = All-contains (λ v. slice_index labels v < slice_index labels x) (targets_at g x) c.0 falls (successor_target g x c.0 c.1) in
      let b = walk_falls h c.2.0 c.0 x c.2.1 in
      omega (arith, a, b)

  -- beyond the graph there is no successor
  pub never_rise_all : ((x : ℕ) → x < length g → All (λ y. slice_index labels y ≤ slice_index labels x) (targets_at g x)) → NeverRise g labels
  never_rise_all h x k d l = h x (target_within g x _ (Contains-get_or (targets_at g x) k d l)) k d l

-- a node is on a circle exactly where it is reached from its successors
pub circle_reached : (g : Digraph) (x : ℕ) → IsReached (successors_at g) (targets_at g x) x → IsOnCircle (successors_at g) x
circle_reached g x r = (r.0, target_successor g x r.0 r.1, r.2)

pub reached_circle : (g : Digraph) (x : ℕ) → IsOnCircle (successors_at g) x → IsReached (successors_at g) (targets_at g x) x
reached_circle g x c = (c.0, successor_target g x c.0 c.1, c.2)

pub on_circle_within : (g : Digraph) (x : ℕ) → IsOnCircle (successors_at g) x → x < length g
on_circle_within g x c = target_within g x c.0 (successor_target g x c.0 c.1)

-- one number more of which none has P
pub none_next : (P : ℕ → Type 0) (x : ℕ) → ((y : ℕ) → y < x → ¬ (P y)) → ¬ (P x) → (y : ℕ) → y < x + 1 → ¬ (P y)
none_next P x h n y l = at (cases_lt y x)
  where
    at : (y < x) ⊎ (x ≤ y) → ¬ (P y)
    at (inl k) = h y k
    at (inr k) = let q : x ≡ y = omega (arith, k, l) in subst (λ z. ¬ (P z)) q n
