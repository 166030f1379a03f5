-- Which nodes begin a list and how long it is, as a table over numbered nodes. Only private functions and the
-- invariant of `Lists` cite this.
use Rattle.std.specs.Prelude.{◌≡◌, ℕ, ◌<◌, min, Bool, false, List, [], ◌∷◌, length}
use Rattle.std.specs.Prelude.{Option, Some, None, option_map, if◌then◌else◌}
use Rattle.rdf_terms.specs.declared.term.Term.{Term}
use Rattle.rdf_terms.specs.Graph.{Graph}
use Rattle.rdf_terms.specs.Nodes.{Nodes, terms, has_term}
use Rattle.rdf_terms.specs.Vocab.Rdf as rdf
use Rattle.digraph.specs.Digraph.{look}
use Rattle.rdf_navigation.specs.Values.{only_value}
use Rattle.rdf_navigation.specs.Lists.{is_nil, members_of}
use Rattle.rdf_navigation.specs.Numbers.{term_at}

-- the one rest of a cell that has one first
abbrev pub rest_by : Option Term → Option Term → Option (List Term)
rest_by None r = None
rest_by (Some m) None = None
rest_by (Some m) (Some r) = Some (r ∷ [])

-- what follows a node in a list whose cells pass the test: nothing after rdf:nil, its rest after a cell
abbrev pub rests : (Term → Bool) → Graph → Term → Option (List Term)
rests test s x =
    if is_nil s x then Some []
    else if test x then rest_by (only_value s x rdf.first) (only_value s x rdf.rest)
    else None

-- 2 stands for two members and more
abbrev pub capped_length : List Term → ℕ
capped_length ms = min 2 (length ms)

-- the table has the capped length of the list that begins at each of the nodes, and no other node begins one
pub record AreLengths (test : Term → Bool) (s : Graph) (nodes : Nodes) (lengths : List (Option ℕ)) : Type 0 where
  pub listed : (i : ℕ) → i < length (terms nodes)
      → look lengths i ≡ option_map capped_length (members_of test s (term_at nodes i))
  pub others : (x : Term) → has_term nodes x ≡ false → members_of test s x ≡ None
