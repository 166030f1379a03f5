-- Laws of walks, of what is reached and of circles, over any type of nodes.
use Rattle.std.proofs.Common.{◌≡◌, List, [], ◌∷◌, ◌++◌, Contains, map, Option, Some, None, option_map, refl, sym, ap, ◌∙◌, subst}
use Rattle.digraph.specs.Walk.{IsWalk}
use Rattle.digraph.specs.Reach.{IsSuccessor, IsReached, IsOnCircle}
use Rattle.digraph.proofs.Members.{Contains-map, Contains-unmap}

module _ {X : Type 0} (R : X → X → Type 0) where
  -- one step more
  pub walk_more : (zs : List X) (x y z : X) → IsWalk R zs x y → R y z → IsWalk R (zs ++ z ∷ []) x z
  walk_more [] x y z w r = (subst (λ u. R u z) (sym w) r, refl)
  walk_more (u ∷ us) x y z w r = (w.0, walk_more us u y z w.1 r)

  -- what the start has and each step keeps, the end has
  pub walk_keeps : (P : X → Type 0) → ((u v : X) → P u → R u v → P v) → (zs : List X) (x y : X) → IsWalk R zs x y → P x → P y
  walk_keeps P keep [] x y w p = subst P w p
  walk_keeps P keep (z ∷ zs) x y w p = walk_keeps P keep zs z y w.1 (keep x z p w.0)

module _ {X : Type 0} (successors : X → Option (List X)) where
  -- each start is reached
  pub reached_start : (starts : List X) (x : X) → Contains starts x → IsReached successors starts x
  reached_start starts x c = (x, c, ([], refl))

  -- so is each successor of what is reached
  pub reached_next : (starts : List X) (x y : X) → IsReached successors starts x → IsSuccessor successors x y → IsReached successors starts y
  reached_next starts x y r s = (r.0, r.1, (r.2.0 ++ y ∷ [], walk_more (IsSuccessor successors) r.2.0 r.0 x y r.2.1 s))

module _ {X Y : Type 0} (f : X → Y) (here : X → Option (List X)) (there : Y → Option (List Y)) where
  module _ (P : X → Type 0) (same : (x : X) → P x → there (f x) ≡ option_map (map f) (here x)) (closed : (x y : X) → P x → IsSuccessor here x y → P y) where
    successor_along : (x y : X) → P x → IsSuccessor here x y → IsSuccessor there (f x) (f y)
    successor_along x y p s = (map f s.0, same x p ∙ ap (option_map (map f)) s.1, Contains-map f s.0 y s.2)

    -- a successor there is that of a node here
    successor_back : (x : X) (y : Y) → P x → IsSuccessor there (f x) y → (z : X) × IsSuccessor here x z × (f z ≡ y)
    successor_back x y p s = at (here x) refl (sym (same x p) ∙ s.1)
      where
        at : (o : Option (List X)) → here x ≡ o → option_map (map f) o ≡ Some s.0 → (z : X) × IsSuccessor here x z × (f z ≡ y)
        at None e h = absurd (let z : None ≡ Some s.0 = h in cc)
        at (Some xs) e h =
            let image : map f xs ≡ s.0 = cc in
            let m = Contains-unmap f xs y (subst (λ ys. Contains ys y) (sym image) s.2) in
            (m.0, (xs, e, m.1), m.2)

    walk_along : (zs : List X) (x y : X) → P x → IsWalk (IsSuccessor here) zs x y → IsWalk (IsSuccessor there) (map f zs) (f x) (f y)
    walk_along [] x y p w = ap f w
    walk_along (z ∷ zs) x y p w = (successor_along x z p w.0, walk_along zs z y (closed x z p w.0) w.1)

    -- a walk there from a node here is that of a walk here
    walk_back : (zs : List Y) (x : X) (y : Y) → P x → IsWalk (IsSuccessor there) zs (f x) y → (z : X) × (f z ≡ y) × P z × ((us : List X) × IsWalk (IsSuccessor here) us x z)
    walk_back [] x y p w = (x, w, p, ([], refl))
    walk_back (u ∷ zs) x y p w =
        let s = successor_back x u p w.0 in
        let r = walk_back zs s.0 y (closed x s.0 p s.1) (subst (λ v. IsWalk (IsSuccessor there) zs v y) (sym s.2) w.1) in
        (r.0, r.1, r.2, (s.0 ∷ r.3.0, (s.1, r.3.1)))

    pub reached_along_within : (starts : List X) (x : X) → ((s : X) → Contains starts s → P s) → IsReached here starts x → IsReached there (map f starts) (f x)
    reached_along_within starts x within r = (f r.0, Contains-map f starts r.0 r.1, (map f r.2.0, walk_along r.2.0 r.0 x (within r.0 r.1) r.2.1))

    pub on_circle_along_within : (x : X) → P x → IsOnCircle here x → IsOnCircle there (f x)
    on_circle_along_within x p c = (f c.0, successor_along x c.0 p c.1, (map f c.2.0, walk_along c.2.0 c.0 x (closed x c.0 p c.1) c.2.1))

    -- what is reached there is the image of something that is reached here
    pub reached_image_within : (starts : List X) (y : Y) → ((s : X) → Contains starts s → P s) → IsReached there (map f starts) y → (x : X) × (f x ≡ y) × P x × IsReached here starts x
    reached_image_within starts y within r =
        let s = Contains-unmap f starts r.0 r.1 in
        let b = walk_back r.2.0 s.0 y (within s.0 s.1) (subst (λ v. IsWalk (IsSuccessor there) r.2.0 v y) (sym s.2) r.2.1) in
        (b.0, b.1, b.2, (s.0, s.1, b.3))

    -- the other way where no other node of the set has the same image
    pub reached_back_within : (starts : List X) (x : X) → ((s : X) → Contains starts s → P s) → ((z : X) → P z → f z ≡ f x → z ≡ x) → IsReached there (map f starts) (f x) → IsReached here starts x
    reached_back_within starts x within alone r =
        let s = Contains-unmap f starts r.0 r.1 in
        let b = walk_back r.2.0 s.0 (f x) (within s.0 s.1) (subst (λ v. IsWalk (IsSuccessor there) r.2.0 v (f x)) (sym s.2) r.2.1) in
        (s.0, s.1, (b.3.0, subst (λ v. IsWalk (IsSuccessor here) b.3.0 s.0 v) (alone b.0 b.2 b.1) b.3.1))

    pub on_circle_back_within : (x : X) → P x → ((z : X) → P z → f z ≡ f x → z ≡ x) → IsOnCircle there (f x) → IsOnCircle here x
    on_circle_back_within x p alone c =
        let s = successor_back x c.0 p c.1 in
        let b = walk_back c.2.0 s.0 (f x) (closed x s.0 p s.1) (subst (λ v. IsWalk (IsSuccessor there) c.2.0 v (f x)) (sym s.2) c.2.1) in
        (s.0, s.1, (b.3.0, subst (λ v. IsWalk (IsSuccessor here) b.3.0 s.0 v) (alone b.0 b.2 b.1) b.3.1))

  module _ (same : (x : X) → there (f x) ≡ option_map (map f) (here x)) where
    -- what is reached goes along a function that takes successors to successors
    pub reached_along : (starts : List X) (x : X) → IsReached here starts x → IsReached there (map f starts) (f x)
    reached_along starts x r = reached_along_within (λ _. Unit {0}) (λ z _. same z) (λ z y _ _. tt) starts x (λ s _. tt) r

    pub reached_back : ((x z : X) → f z ≡ f x → z ≡ x) → (starts : List X) (x : X) → IsReached there (map f starts) (f x) → IsReached here starts x
    reached_back alone starts x r = reached_back_within (λ _. Unit {0}) (λ z _. same z) (λ z y _ _. tt) starts x (λ s _. tt) (λ z _. alone x z) r

    -- so do circles
    pub on_circle_along : (x : X) → IsOnCircle here x → IsOnCircle there (f x)
    on_circle_along x c = on_circle_along_within (λ _. Unit {0}) (λ z _. same z) (λ z y _ _. tt) x tt c

    pub on_circle_back : ((x z : X) → f z ≡ f x → z ≡ x) → (x : X) → IsOnCircle there (f x) → IsOnCircle here x
    on_circle_back alone x c = on_circle_back_within (λ _. Unit {0}) (λ z _. same z) (λ z y _ _. tt) x tt (λ z _. alone x z) c
