-- How a `Digraph` is stored. Private functions and the view of the type alone cite this.
use Rattle.std.specs.Prelude.{ℕ, ◌≤◌, List, Option, map, length, slice_range, All, IfSome}
use Rattle.std.specs.Option.{option_map}
use Rattle.digraph.specs.Digraph.{Digraph}
use Rattle.digraph.specs.declared.digraph.Span.{Span}

-- the targets that the span is of
abbrev pub targets_of : List ℕ → Span → List ℕ
targets_of targets s = slice_range targets s.start s.«end»

-- the graph whose successors are these spans of the targets
abbrev pub graph_of : List ℕ → List (Option Span) → Digraph
graph_of targets spans = map (option_map (targets_of targets)) spans

-- the span, if there is one, is within the targets
abbrev pub IsWithin : List ℕ → Option Span → Type 0
IsWithin targets o = IfSome o (λ s. (s.start ≤ s.«end») × (s.«end» ≤ length targets))

-- each span is within the targets
abbrev pub AreWithin : List ℕ → List (Option Span) → Type 0
AreWithin targets spans = All (IsWithin targets) spans
