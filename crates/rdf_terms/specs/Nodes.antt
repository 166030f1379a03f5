-- A set of terms, as the nodes of two graphs.
use Rattle.std.specs.Prelude.{◌≡◌, ◌⊎◌, ℕ, Bool, IsTrue, List, [], ◌∷◌, ◌++◌, flat_map}
use Rattle.std.specs.declared.cmp.Ordering.TheVariants.{Less, Greater}
use Rattle.std.specs.List.Sorted.{IsPartitionPoint}
use base.Stored.{Coded}
use Rattle.rdf_terms.specs.Set as set
use Rattle.rdf_terms.specs.Term.{term_cmp}
use Rattle.rdf_terms.specs.Statement.{Statement}
use Rattle.rdf_terms.specs.Graph.{Graph, triples, has}
use Rattle.rdf_terms.specs.declared.term.Term.{Term}
use Rattle.rdf_terms.specs.contracts.term.Term.{the_row}

-- a finite set of terms
abbrev pub Nodes : Type 0
Nodes = set.Set term_cmp

-- its terms, in order, each once
abbrev pub terms : Nodes → List Term
terms n = set.items n

-- whether the term is in the set
abbrev pub has_term : Nodes → Term → Bool
has_term n t = set.has n t

abbrev pub empty : Nodes
empty = set.empty

-- the set and one term
abbrev pub with : Nodes → Term → Nodes
with n t = set.with n t

-- each term is below all later ones
abbrev pub is_rising : List Term → Bool
is_rising ts = set.is_rising term_cmp ts

-- the set of a list that rises
abbrev pub nodes_of_rising : List Term → Nodes
nodes_of_rising ts = set.of_rising term_cmp ts

-- how a proof tells two sets apart
abbrev pub code : Coded Nodes
code = set.code (the_row).coded

-- where a term that isn't there would stand
abbrev pub IsTermPlace : List Term → Term → ℕ → Type 0
IsTermPlace ts t i = IsPartitionPoint (λ y. term_cmp y t ≡ Less) (λ y. term_cmp y t ≡ Greater) ts i

-- the set of the terms of a list
abbrev pub nodes_of_list : List Term → Nodes
nodes_of_list ts = set.of_list ts

-- the subject and the object of each triple, which are its nodes (RDF 1.1 Concepts 3.1)
abbrev pub ends : List Statement → List Term
ends ts = flat_map (λ t. t.subject ∷ t.object ∷ []) ts

-- the term is the subject or the object of a triple of the graph (RDF 1.1 Concepts 3.1)
abbrev pub IsNodeOf : Graph → Term → Type 0
IsNodeOf g x = (t : Statement) × IsTrue (has g t) × ((x ≡ t.subject) ⊎ (x ≡ t.object))

-- the nodes of two graphs, and more terms
abbrev pub nodes_of : Graph → Graph → List Term → Nodes
nodes_of g h more = nodes_of_list ((ends (triples g) ++ ends (triples h)) ++ more)
