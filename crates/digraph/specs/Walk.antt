-- Walks along a relation.
use Rattle.std.specs.Prelude.{◌≡◌, List, [], ◌∷◌}

-- the list has the places after x on a walk that ends at y, each in the relation to the one before
abbrev pub IsWalk : {X : Type 0} → (X → X → Type 0) → List X → X → X → Type 0
IsWalk R [] x y = x ≡ y
IsWalk R (z ∷ zs) x y = R x z × IsWalk R zs z y
