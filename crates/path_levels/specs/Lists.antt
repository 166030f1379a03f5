-- Lists of possible nodes that are kept. Private functions and the invariant of a type alone cite it.
use Rattle.std.specs.Prelude.{◌≡◌, ◌&&◌, ℕ, Bool, List, Option, Some, nat_eq}
use Rattle.path_eval.specs.Numbered.{Numbered}
use Rattle.repair_problem.specs.Setting.{Setting, full, nodes}
use Rattle.path_levels.specs.declared.lists.PathStart.{PathStart}
use Rattle.path_levels.specs.PossibleNodes.{possible}

abbrev pub same_start : PathStart → PathStart → Bool
same_start a b = nat_eq a.path b.path && nat_eq a.node b.node

-- the graph has all candidates, and its nodes have the numbers of the problem
pub record IsFullNumbered (s : Setting) (n : Numbered) : Type 0 where
  pub all_triples : n.graph ≡ full s
  pub all_nodes : n.nodes ≡ nodes s

-- each list that is found has the possible nodes
abbrev pub AreLists : Setting → (PathStart → Option (List ℕ)) → Type 0
AreLists s found = (k : PathStart) (ys : List ℕ) → found k ≡ Some ys → ys ≡ possible s k.path k.node

-- what is kept beside a problem
pub record AreKept (s : Setting) (n : Numbered) (found : PathStart → Option (List ℕ)) : Type 0 where
  pub numbered : IsFullNumbered s n
  pub lists : AreLists s found
