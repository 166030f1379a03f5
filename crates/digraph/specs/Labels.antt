-- Labels of nodes that never rise along a successor. Private functions alone cite this.
use Rattle.std.specs.Prelude.{ℕ, ◌≤◌, List, All, slice_index}
use Rattle.digraph.specs.Digraph.{Digraph, targets_at}

-- no successor of a node has a greater label than the node; beyond the labels stands 0
abbrev pub NeverRise : Digraph → List ℕ → Type 0
NeverRise g labels = (x : ℕ) → All (λ y. slice_index labels y ≤ slice_index labels x) (targets_at g x)
