-- The depth of a node: 0 without successors, else one more than that of the deepest successor. What is no node has no
-- depth, nor has a node from which a walk leads to no node or onto a circle.
use Rattle.std.specs.Prelude.{ℕ, zero, suc, max, List, [], ◌∷◌, Option, Some, None, option_and_then}

-- the depth of a node, from that of its first successor and what it would be without this one
abbrev pub deeper : Option ℕ → Option ℕ → Option ℕ
deeper None b = None
deeper (Some a) None = None
deeper (Some a) (Some b) = Some (max (suc a) b)

-- the depth of a node with these successors, from theirs
abbrev pub depth_over : {X : Type 0} → (X → Option ℕ) → List X → Option ℕ
depth_over D [] = Some 0
depth_over D (x ∷ xs) = deeper (D x) (depth_over D xs)

module _ {X : Type 0} (successors : X → Option (List X)) where
  -- the depth of a node that nests less than k deep
  abbrev pub depth_in : ℕ → X → Option ℕ
  depth_in zero x = None
  depth_in (suc k) x = option_and_then (λ ys. depth_over (λ y. depth_in k y) ys) (successors x)
