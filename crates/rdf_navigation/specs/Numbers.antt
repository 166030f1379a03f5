-- Relations between terms as graphs over their places in a set.
use Rattle.std.specs.Prelude.{◌≡◌, ℕ, ◌<◌, ◌⊎◌, List, [], ◌∷◌, map, length}
use Rattle.std.specs.Prelude.{slice_index_or, Option, None, option_map, if◌then◌else◌}
use Rattle.rdf_terms.specs.declared.term.Term.{Term}
use Rattle.rdf_terms.specs.declared.term.Term.TheVariants.{Literal}
use Rattle.rdf_terms.specs.Statement.{Statement}
use Rattle.rdf_terms.specs.Graph.{Graph}
use Rattle.rdf_terms.specs.Members.{InGraph}
use Rattle.rdf_terms.specs.Nodes.{Nodes, terms}
use Rattle.digraph.specs.Digraph.{Digraph, successors_at}
use Rattle.digraph.specs.Reach.{IsSuccessor}
use Rattle.rdf_navigation.specs.Values.{same_term}

-- the term at a place of the set
abbrev pub term_at : Nodes → ℕ → Term
term_at nodes i = slice_index_or (terms nodes) i (Literal [] [] None)

-- the successors of a number are the places of the successors of its term
pub record IsNumbered (successors : Term → Option (List Term)) (nodes : Nodes) (g : Digraph) : Type 0 where
  pub same : (i : ℕ) → i < length g
      → successors (term_at nodes i) ≡ option_map (map (term_at nodes)) (successors_at g i)
  pub closed : (i j : ℕ) → IsSuccessor (successors_at g) i j → j < length (terms nodes)

-- the subject and the object of the triple, where it has the predicate
abbrev pub ends_by : Term → Statement → List Term
ends_by p t = if same_term t.predicate p then t.subject ∷ t.object ∷ [] else []

-- the term is the subject or the object of a triple with this predicate
abbrev pub IsEndOf : Graph → Term → Term → Type 0
IsEndOf g p x = (y : Term) × (InGraph g x p y ⊎ InGraph g y p x)
