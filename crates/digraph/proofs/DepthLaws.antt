-- Laws of depths, over any type of nodes.
use Rattle.std.proofs.Common.{◌≡◌, ℕ, zero, suc, max, ◌<◌, ◌≤◌, ◌⊎◌, inl, inr, List, [], ◌∷◌, Contains, map, Option, Some, None, option_map, option_and_then, refl, sym, ap, ◌∙◌, subst, arith}
use Rattle.std.proofs.lemmas.Bool.{cases_lt}
use Rattle.digraph.specs.Walk.{IsWalk}
use Rattle.digraph.specs.Reach.{IsSuccessor, IsOnCircle}
use Rattle.digraph.specs.Depth.{deeper, depth_over, depth_in}
use Rattle.digraph.proofs.Members.{Contains-none, Contains-head, Contains-tail, Contains-cases}

-- each depth that the first function gives, the second gives too
abbrev pub Known : {X : Type 0} → (X → Option ℕ) → (X → Option ℕ) → Type 0
Known {X} D E = (x : X) (d : ℕ) → D x ≡ Some d → E x ≡ Some d

pub depth_over-grows : {X : Type 0} (D E : X → Option ℕ) → Known D E → (xs : List X) (d : ℕ) → depth_over D xs ≡ Some d → depth_over E xs ≡ Some d
depth_over-grows D E k [] d e = e
depth_over-grows D E k (x ∷ xs) d e = at (D x) refl (depth_over D xs) refl e (λ b h. depth_over-grows D E k xs b h)
  where
    at : (o : Option ℕ) → D x ≡ o → (p : Option ℕ) → depth_over D xs ≡ p → deeper o p ≡ Some d
        → ((b : ℕ) → depth_over D xs ≡ Some b → depth_over E xs ≡ Some b) → deeper (E x) (depth_over E xs) ≡ Some d
    at None fo p fp e more = cc
    at (Some a) fo None fp e more = cc
    at (Some a) fo (Some b) fp e more = ap (λ o. deeper o (depth_over E xs)) (k x a fo) ∙ ap (deeper (Some a)) (more b fp) ∙ e

-- each of the successors has a depth, which is smaller
pub depth_over-each : {X : Type 0} (D : X → Option ℕ) (xs : List X) (d : ℕ) → depth_over D xs ≡ Some d → (y : X) → Contains xs y → (e : ℕ) × (D y ≡ Some e) × (e < d)
depth_over-each D [] d e y c = absurd (Contains-none y c)
depth_over-each {X} D (x ∷ xs) d e y c = at (D x) refl (depth_over D xs) refl e (λ b h. depth_over-each D xs b h y) (Contains-cases xs x y c)
  where
    at : (o : Option ℕ) → D x ≡ o → (p : Option ℕ) → depth_over D xs ≡ p → deeper o p ≡ Some d
        → ((b : ℕ) → depth_over D xs ≡ Some b → Contains xs y → (e : ℕ) × (D y ≡ Some e) × (e < b)) → (x ≡ y) ⊎ Contains xs y → (e : ℕ) × (D y ≡ Some e) × (e < d)
    at None fo p fp e more s = absurd (let z : None ≡ Some d = e in cc)
    at (Some a) fo None fp e more s = absurd (let z : None ≡ Some d = e in cc)
    at (Some a) fo (Some b) fp e more (inl s) = let q : max (suc a) b ≡ d = cc in (a, ap D (sym s) ∙ fo, omega (arith, q))
    at (Some a) fo (Some b) fp e more (inr s) =
        let q : max (suc a) b ≡ d = cc in
        let m = more b fp s in
        let l = m.2 in
        (m.0, m.1, omega (arith, q, l))

module _ {X : Type 0} (successors : X → Option (List X)) where
  depth_next : (k : ℕ) → Known (depth_in successors k) (depth_in successors (suc k))
  depth_next zero x d e = cc
  depth_next (suc k) x d e = at (successors x) (λ y c h. depth_next k y c h) e
    where
      at : (o : Option (List X)) → Known (λ y. depth_in successors k y) (λ y. depth_in successors (suc k) y)
          → option_and_then (λ ys. depth_over (λ y. depth_in successors k y) ys) o ≡ Some d → option_and_then (λ ys. depth_over (λ y. depth_in successors (suc k) y) ys) o ≡ Some d
      at None below e = cc
      at (Some ys) below e = depth_over-grows (λ y. depth_in successors k y) (λ y. depth_in successors (suc k) y) below ys d e

  -- a depth that is found stays
  pub depth_grows : (k m : ℕ) (x : X) (d : ℕ) → k ≤ m → depth_in successors k x ≡ Some d → depth_in successors m x ≡ Some d
  depth_grows k zero x d l h = let same : k ≡ 0 = omega (arith, l) in subst (λ n. depth_in successors n x ≡ Some d) same h
  depth_grows k (suc m) x d l h = at (cases_lt k (suc m)) (λ i. depth_grows k m x d i h)
    where
      at : (k < suc m) ⊎ (suc m ≤ k) → (k ≤ m → depth_in successors m x ≡ Some d) → depth_in successors (suc m) x ≡ Some d
      at (inl i) lower = depth_next m x d (lower (omega (arith, i)))
      at (inr i) lower = let same : k ≡ suc m = omega (arith, i, l) in subst (λ n. depth_in successors n x ≡ Some d) same h

  -- a successor has a depth too, which is smaller
  pub successor_depth : (k : ℕ) (x y : X) (d : ℕ) → depth_in successors (suc k) x ≡ Some d → IsSuccessor successors x y → (e : ℕ) × (depth_in successors k y ≡ Some e) × (e < d)
  successor_depth k x y d h s =
      let e : depth_over (λ z. depth_in successors k z) s.0 ≡ Some d = ap (option_and_then (λ ys. depth_over (λ z. depth_in successors k z) ys)) (sym s.1) ∙ h in
      depth_over-each (λ z. depth_in successors k z) s.0 d e y s.2

  -- so has each place of a walk
  pub walk_depth : (k : ℕ) (zs : List X) (x y : X) (d : ℕ) → depth_in successors k x ≡ Some d → IsWalk (IsSuccessor successors) zs x y → (e : ℕ) × (depth_in successors k y ≡ Some e) × (e ≤ d)
  walk_depth k [] x y d h w = (d, subst (λ z. depth_in successors k z ≡ Some d) w h, omega arith)
  walk_depth zero (z ∷ zs) x y d h w = absurd (let e : None ≡ Some d = h in cc)
  walk_depth (suc k) (z ∷ zs) x y d h w =
      let s = successor_depth k x z d h w.0 in
      let r = walk_depth (suc k) zs z y s.0 (depth_next k z s.0 s.1) w.1 in
      let a = s.2 in
      let b = r.2 in
      (r.0, r.1, omega (arith, a, b))

  -- a node with a depth is on no circle
  pub not_on_circle : (k : ℕ) (x : X) (d : ℕ) → depth_in successors k x ≡ Some d → ¬ (IsOnCircle successors x)
  not_on_circle zero x d e c = let z : None ≡ Some d = e in cc
  not_on_circle (suc k) x d e c =
      let s = successor_depth k x c.0 d e c.1 in
      let r = walk_depth k c.2.0 c.0 x s.0 s.1 c.2.1 in
      not_on_circle k x r.0 r.1 c

module _ {X Y : Type 0} (f : X → Y) (here : X → Option (List X)) (there : Y → Option (List Y)) where
  depth_over-map : (D : Y → Option ℕ) (E : X → Option ℕ) (xs : List X) → ((x : X) → Contains xs x → D (f x) ≡ E x) → depth_over D (map f xs) ≡ depth_over E xs
  depth_over-map D E [] h = refl
  depth_over-map D E (x ∷ xs) h =
      ap (λ o. deeper o (depth_over D (map f xs))) (h x (Contains-head xs x)) ∙ ap (deeper (E x)) (depth_over-map D E xs (λ y c. h y (Contains-tail xs x y c)))

  -- depths go along a function that takes successors to successors, at each node of a set that walks do not leave
  pub depth_along_within : (P : X → Type 0) → ((x : X) → P x → there (f x) ≡ option_map (map f) (here x)) → ((x y : X) → P x → IsSuccessor here x y → P y)
      → (k : ℕ) (x : X) → P x → depth_in there k (f x) ≡ depth_in here k x
  depth_along_within P same closed zero x p = refl
  depth_along_within P same closed (suc k) x p =
      ap (option_and_then (λ ys. depth_over (λ y. depth_in there k y) ys)) (same x p) ∙ at (here x) refl (λ y q. depth_along_within P same closed k y q)
    where
      at : (o : Option (List X)) → here x ≡ o → ((y : X) → P y → depth_in there k (f y) ≡ depth_in here k y)
          → option_and_then (λ ys. depth_over (λ y. depth_in there k y) ys) (option_map (map f) o) ≡ option_and_then (λ ys. depth_over (λ y. depth_in here k y) ys) o
      at None e below = refl
      at (Some xs) e below = depth_over-map (λ y. depth_in there k y) (λ y. depth_in here k y) xs (λ y c. below y (closed x y p (xs, e, c)))

  -- depths go along a function that takes successors to successors; it need not be one to one
  pub depth_along : ((x : X) → there (f x) ≡ option_map (map f) (here x)) → (k : ℕ) (x : X) → depth_in there k (f x) ≡ depth_in here k x
  depth_along same k x = depth_along_within (λ _. Unit {0}) (λ x _. same x) (λ x y _ _. tt) k x tt
