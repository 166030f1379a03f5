-- What is reached along successors, and circles. A graph is a function from each node to the list of its successors;
-- what is no node has no such list.
use Rattle.std.specs.Prelude.{◌≡◌, List, Option, Some, Contains}
use Rattle.digraph.specs.Walk.{IsWalk}

-- y is a successor of x
abbrev pub IsSuccessor : {X : Type 0} → (X → Option (List X)) → X → X → Type 0
IsSuccessor {X} successors x y = (ys : List X) × (successors x ≡ Some ys) × Contains ys y

-- from one of the starts a walk leads to x
abbrev pub IsReached : {X : Type 0} → (X → Option (List X)) → List X → X → Type 0
IsReached {X} successors starts x = (s : X) × Contains starts s × ((w : List X) × IsWalk (IsSuccessor successors) w s x)

-- a walk of one step or more leads from x to x
abbrev pub IsOnCircle : {X : Type 0} → (X → Option (List X)) → X → Type 0
IsOnCircle {X} successors x =
    (y : X) × IsSuccessor successors x y × ((w : List X) × IsWalk (IsSuccessor successors) w y x)
