-- The nodes that paths can lead to: those to which they lead with all candidates in the graph.
use Rattle.std.specs.Prelude.{ℕ, ◌<◌, ◌↔◌, Bool, List, [], length, filter, nat_lt, Contains, if◌then◌else◌}
use Rattle.std.specs.List.{range_with_len}
use Rattle.std.specs.List.Sorted.{IsStrictlyIncreasing}
use Rattle.rdf_terms.specs.Nodes.{terms}
use Rattle.shapes_graph.specs.PathForms.{paths}
use Rattle.shapes_graph.specs.Reach.{Reaches, path_levels}
use Rattle.repair_problem.specs.Setting.{Setting, nodes, node, full}
use Rattle.path_levels.specs.LeadingTests.{leads_in}

abbrev pub node_count : Setting → ℕ
node_count s = length (terms (nodes s))

-- whether path p can lead from node x to node y
abbrev pub can_lead : Setting → ℕ → ℕ → ℕ → Bool
can_lead s p x y = leads_in (terms (nodes s)) path_levels (paths s.shapes) (full s) p (node s x) (node s y)

-- the numbers of the nodes to which path p can lead from node x, ascending
unfoldable pub possible : Setting → ℕ → ℕ → List ℕ
possible s p x = if nat_lt x (node_count s) then filter (can_lead s p x) (range_with_len 0 (node_count s)) else []

-- that this is so: they are the nodes to which the path leads from x in the graph with all candidates
pub record ArePossible (s : Setting) (p x : ℕ) (ys : List ℕ) : Type 0 where
  pub rises : IsStrictlyIncreasing ys
  pub exact : (y : ℕ) → Contains ys y
      ↔ ((x < node_count s) × (y < node_count s) × Reaches s.shapes p (full s) (node s x) (node s y))
