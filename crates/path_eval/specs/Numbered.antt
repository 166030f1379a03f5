-- A graph whose nodes have numbers, and what is reached between numbers.
use Rattle.std.specs.Prelude.{◌≡◌, ◌<◌, ◌↔◌, ℕ, List, map, length, Contains, refl}
use Rattle.std.specs.List.Sorted.{IsStrictlyIncreasing}
use Rattle.std.specs.Coded.{Coded, coded×, code_by}
use Rattle.rdf_terms.specs.declared.term.Term.{Term}
use Rattle.rdf_terms.specs.Graph as graphs
use Rattle.rdf_terms.specs.Graph.{Graph, triples}
use Rattle.rdf_terms.specs.Nodes as sets
use Rattle.rdf_terms.specs.Nodes.{Nodes, terms}
use Rattle.rdf_navigation.specs.Numbers.{term_at}

-- a graph, and a set of terms that has its nodes; the number of a term is its place in the order of the set
pub record Numbered : Type 0 where
  pub graph : Graph
  pub nodes : Nodes

-- how a proof tells two of them apart
abbrev pub code : Coded Numbered
code =
    code_by (Graph × Nodes) (coded× graphs.code sets.code) (λ n. (n.graph, n.nodes))
    (λ p. record { graph = p.0; nodes = p.1 }) (λ _. refl)

-- the terms of these numbers
abbrev pub terms_at : Nodes → List ℕ → List Term
terms_at n is = map (term_at n) is

-- each is the number of a term
abbrev pub AreNumbers : Nodes → List ℕ → Type 0
AreNumbers n is = (i : ℕ) → Contains is i → i < length (terms n)

-- the tables have the numbers of the subject and of the object of each triple
pub record AreNumbered (g : Graph) (n : Nodes) (subjects objects : List ℕ) : Type 0 where
  pub subject : terms_at n subjects ≡ map (λ t. t.subject) (triples g)
  pub object : terms_at n objects ≡ map (λ t. t.object) (triples g)
  pub subjects_within : AreNumbers n subjects
  pub objects_within : AreNumbers n objects

-- exactly the terms to which R leads from some of the starts, by their numbers, ascending
pub record AreReached (R : Term → Term → Type 0) (n : Nodes) (starts found : List ℕ) : Type 0 where
  pub within : AreNumbers n found
  pub rises : IsStrictlyIncreasing found
  pub exact : (y : Term) → Contains (terms_at n found) y ↔ ((x : Term) × Contains (terms_at n starts) x × R x y)
