-- What a search along successors has found. Private functions alone cite this.
use Rattle.std.specs.Prelude.{ℕ, Bool, true, false, List, [], ◌∷◌, ◌++◌, slice_index_or, slice_set}

-- a mark for each number below the length of the graph, and the marked ones in the order in which they were met
pub record Findings : Type 0 where
  pub marks : List Bool
  pub met : List ℕ

-- a number beyond the marks counts as marked, so that it is never met
abbrev pub is_marked : List Bool → ℕ → Bool
is_marked marks y = slice_index_or marks y true

-- the findings after one number, by whether it is marked
abbrev pub with_mark_by : Bool → Findings → ℕ → Findings
with_mark_by true f y = f
with_mark_by false f y = record { marks = slice_set f.marks y true; met = f.met ++ y ∷ [] }

-- one number more, unless it is marked
abbrev pub with_mark : Findings → ℕ → Findings
with_mark f y = with_mark_by (is_marked f.marks y) f y

-- likewise each number of a list
abbrev pub with_marks : Findings → List ℕ → Findings
with_marks f [] = f
with_marks f (y ∷ ys) = with_marks (with_mark f y) ys
