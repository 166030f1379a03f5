-- Which terms a graph relates, and which terms have a property and how many. Definitions over graphs, as
-- those of SHACL, are said in these words.
use Rattle.std.specs.Prelude.{◌≡◌, ℕ, ◌↔◌, IsTrue, List, length, Contains}
use Rattle.rdf_terms.specs.declared.term.Term.{Term}
use Rattle.rdf_terms.specs.Graph.{Graph, has}
use Rattle.rdf_terms.specs.Nodes.{Nodes, terms, has_term}

-- the graph has the triple of these terms
abbrev pub InGraph : Graph → Term → Term → Term → Type 0
InGraph g s p o = IsTrue (has g (record { subject = s; predicate = p; object = o }))

-- exactly the terms with P stand in the list, in whatever order and however often
abbrev pub IsListOf : (Term → Type 0) → List Term → Type 0
IsListOf P ts = (y : Term) → Contains ts y ↔ P y

-- exactly the terms with P are in the set
abbrev pub IsSetOf : (Term → Type 0) → Nodes → Type 0
IsSetOf P n = (y : Term) → IsTrue (has_term n y) ↔ P y

-- exactly n terms have P
pub record IsCount (P : Term → Type 0) (n : ℕ) : Type 0 where
  pub nodes : Nodes
  pub all : IsSetOf P nodes
  pub size : length (terms nodes) ≡ n
