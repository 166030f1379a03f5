-- How contracts see a `Digraph`, and what is said of its numbers.
use Rattle.std.specs.Prelude.{ℕ, ◌<◌, List, [], Option, None, slice_index_or, unwrap_or}

-- for each number below the length its successors, or None where it is no node
abbrev pub Digraph : Type 0
Digraph = List (Option (List ℕ))

-- the successors of a node; None where the number is no node
abbrev pub successors_at : Digraph → ℕ → Option (List ℕ)
successors_at g x = slice_index_or g x None

-- the successors of a node; none where the number is no node
abbrev pub targets_at : Digraph → ℕ → List ℕ
targets_at g x = unwrap_or (successors_at g x) []

-- the depth that a table has at a number; None beyond the table too
abbrev pub look : List (Option ℕ) → ℕ → Option ℕ
look depths x = slice_index_or depths x None

-- the number has P, and no smaller one has it
pub record IsFirst (P : ℕ → Type 0) (x : ℕ) : Type 0 where
  pub has : P x
  pub before : (y : ℕ) → y < x → ¬ (P y)
