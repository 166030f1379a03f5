-- How a table of depths up to a cap is filled, pass by pass. Private functions alone cite this.
use Rattle.std.specs.Prelude.{ℕ, ◌<◌, suc, min, List, [], ◌∷◌, Option, Some, None, option_and_then, slice_set, Contains}
use Rattle.std.specs.Option.{option_map}
use Rattle.digraph.specs.Depth.{depth_over}
use Rattle.digraph.specs.Digraph.{Digraph, successors_at, look}

module _ (cap : ℕ) (g : Digraph) where
  -- the depth of a node from what the depths of its successors are
  abbrev pub depth_from : (ℕ → Option ℕ) → ℕ → Option ℕ
  depth_from D x = option_map (min cap) (option_and_then (λ ys. depth_over D ys) (successors_at g x))

  -- the table after one node, by what it has of this node; a depth that is there stays
  abbrev pub with_depth_by : Option ℕ → List (Option ℕ) → ℕ → List (Option ℕ)
  with_depth_by None ds x = slice_set ds x (depth_from (look ds) x)
  with_depth_by (Some d) ds x = ds

  -- the table with the depth of one node more, if its successors have depths there
  abbrev pub with_depth : List (Option ℕ) → ℕ → List (Option ℕ)
  with_depth ds x = with_depth_by (look ds x) ds x

  -- likewise for each node of an order, one after another
  abbrev pub with_depths : List (Option ℕ) → List ℕ → List (Option ℕ)
  with_depths ds [] = ds
  with_depths ds (x ∷ xs) = with_depths (with_depth ds x) xs

-- how many depths the table has
abbrev pub known_count : List (Option ℕ) → ℕ
known_count [] = 0
known_count (None ∷ ds) = known_count ds
known_count (Some d ∷ ds) = suc (known_count ds)

-- each number below n stands in the order
abbrev pub Covers : List ℕ → ℕ → Type 0
Covers order n = (x : ℕ) → x < n → Contains order x
