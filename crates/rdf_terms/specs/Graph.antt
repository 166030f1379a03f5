-- A graph is a finite set of triples (RDF 1.1 Concepts 3).
use Rattle.std.specs.Prelude.{◌≡◌, ℕ, ◌<◌, ◌≤◌, ◌↔◌, ◌&&◌, Bool, List, length, filter, Contains}
use Rattle.std.specs.Prelude.{Option, Some, slice_get}
use Rattle.std.specs.declared.cmp.Ordering.TheVariants.{Less, Greater}
use Rattle.std.specs.Ordering.{is_eq, eq_by_cmp}
use Rattle.std.specs.Cmp.Lexicographic.{pointwise}
use Rattle.std.specs.Option.{option_map}
use Rattle.std.specs.List.Sorted.{IsPartitionPoint, IsStrictlyIncreasing}
use base.Stored.{Coded}
use Rattle.rdf_terms.specs.Set as set
use Rattle.rdf_terms.specs.declared.term.Term.{Term}
use Rattle.rdf_terms.specs.Term.{term_cmp}
use Rattle.rdf_terms.specs.Statement.{Statement, statement_cmp}
use Rattle.rdf_terms.specs.contracts.triple.Triple.{the_row}

abbrev pub Graph : Type 0
Graph = set.Set statement_cmp

-- in order, each once
abbrev pub triples : Graph → List Statement
triples g = set.items g

-- whether the triple is in the graph
abbrev pub has : Graph → Statement → Bool
has g t = set.has g t

-- whether the graphs list the same triples, and so are equal
abbrev pub same_triples : Graph → Graph → Bool
same_triples g h = pointwise (eq_by_cmp statement_cmp) (triples g) (triples h)

-- the graph and one triple
abbrev pub with : Graph → Statement → Graph
with g t = set.with g t

abbrev pub empty : Graph
empty = set.empty

-- each triple is below all later ones
abbrev pub is_rising : List Statement → Bool
is_rising ts = set.is_rising statement_cmp ts

-- the graph of a list that rises
abbrev pub graph_of : List Statement → Graph
graph_of ts = set.of_rising statement_cmp ts

-- how a proof tells two graphs apart
abbrev pub code : Coded Graph
code = set.code (the_row).coded

-- where a triple that isn't there would stand
abbrev pub IsPlace : List Statement → Statement → ℕ → Type 0
IsPlace ts t i = IsPartitionPoint (λ y. statement_cmp y t ≡ Less) (λ y. statement_cmp y t ≡ Greater) ts i

-- the triples with this subject are those at the places from first on and before after
pub record ArePlacesOf (ts : List Statement) (subject : Term) (first after : ℕ) : Type 0 where
  pub ordered : first ≤ after
  pub within : after ≤ length ts
  pub exact : (i : ℕ) (t : Statement) → slice_get ts i ≡ Some t
      → (t.subject ≡ subject) ↔ ((first ≤ i) × (i < after))

-- whether the triple has this subject and this predicate
abbrev pub is_of : Term → Term → Statement → Bool
is_of s p t = is_eq (term_cmp t.subject s) && is_eq (term_cmp t.predicate p)

-- the triples with this subject and this predicate, in order
abbrev pub triples_of : Graph → Term → Term → List Statement
triples_of g s p = filter (is_of s p) (triples g)

-- the object of the triple at a place
abbrev pub object_at : List Statement → ℕ → Option Term
object_at ts i = option_map (λ t. t.object) (slice_get ts i)

-- the places of the triples with this object, in order
pub record ArePlacesOfObject (ts : List Statement) (object : Term) (places : List ℕ) : Type 0 where
  pub rises : IsStrictlyIncreasing places
  pub exact : (i : ℕ) → Contains places i ↔ (object_at ts i ≡ Some object)

-- g with the triples of a list
abbrev pub including : Graph → List Statement → Graph
including g ts = set.including g ts

-- the graph of the triples of a list
abbrev pub of_list : List Statement → Graph
of_list ts = set.of_list ts

-- g without the triples of d
abbrev pub without : Graph → Graph → Graph
without g d = set.without g d

-- g without the triples of d, and then with those of a
abbrev pub edited : Graph → Graph → Graph → Graph
edited g a d = set.edited g a d
