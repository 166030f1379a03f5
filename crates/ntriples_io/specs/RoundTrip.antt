-- What the canonical text of a graph is read back under, and what the line of a triple means.
use Rattle.std.specs.Prelude.{◌≡◌, ℕ, IsTrue, List, [], ◌∷◌, ◌++◌, Some}
use Rattle.rdf_terms.specs.declared.term.Scope.{Scope}
use Rattle.rdf_terms.specs.declared.term.Term.{Term}
use Rattle.rdf_terms.specs.declared.term.Term.TheVariants.{Iri, Blank, Literal}
use Rattle.rdf_terms.specs.Statement.{Statement, is_node, is_iri}
use Rattle.rdf_terms.specs.Graph.{Graph, has}
use Rattle.ntriples_io.specs.CanonicalText.{line_feed}
use Rattle.ntriples_io.specs.Lines.{IsLine}

-- a blank node of this scope, or no blank node
abbrev pub IsInScope : Scope → Term → Type 0
IsInScope scope (Iri iri) = Unit {0}
IsInScope scope (Blank s label) = s ≡ scope
IsInScope scope (Literal lexical datatype tag) = Unit {0}

abbrev pub IsTripleInScope : Scope → Statement → Type 0
IsTripleInScope scope t = IsInScope scope t.subject × IsInScope scope t.object

-- each blank node of the graph has this scope, as those of one document have
abbrev pub HasScope : Scope → Graph → Type 0
HasScope scope g = (t : Statement) → IsTrue (has g t) → IsTripleInScope scope t

-- the subject is a node and the predicate an IRI, as in each triple of the program (RDF 1.1 Concepts 3.1)
abbrev pub IsTriple : Statement → Type 0
IsTriple t = IsTrue (is_node t.subject) × IsTrue (is_iri t.predicate)

-- the text is one line of N-Triples that means this triple, and an LF
pub record IsLineOf (scope : Scope) (text : List ℕ) (t : Statement) : Type 0 where
  pub line : List ℕ
  pub ended : text ≡ line ++ line_feed ∷ []
  pub is_line : IsLine scope line (Some t)
