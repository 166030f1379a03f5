-- A triple by its three terms (RDF 1.1 Concepts 3.1), and which terms may stand where.
use Rattle.std.specs.Prelude.{Bool, true, false}
use Rattle.std.specs.declared.cmp.Ordering.{Ordering}
use Rattle.std.specs.Ordering.{ordering_then}
use Rattle.rdf_terms.specs.declared.term.Term.{Term}
use Rattle.rdf_terms.specs.declared.term.Term.TheVariants.{Iri, Blank, Literal}
use Rattle.rdf_terms.specs.Term.{term_cmp}

-- Any three terms are a statement, so that a definition can speak of "x, p, y" for all terms.
-- A `Triple` of the program is one whose subject is a node and whose predicate is an IRI.
pub record Statement : Type 0 where
  pub subject : Term
  pub predicate : Term
  pub object : Term

-- an IRI or a blank node, as a subject is
abbrev pub is_node : Term → Bool
is_node (Iri a) = true
is_node (Blank s l) = true
is_node (Literal l d t) = false

-- as a predicate is
abbrev pub is_iri : Term → Bool
is_iri (Iri a) = true
is_iri (Blank s l) = false
is_iri (Literal l d t) = false

-- by subject, then predicate, then object: the project's own order
abbrev pub statement_cmp : Statement → Statement → Ordering
statement_cmp x y =
    ordering_then (term_cmp x.subject y.subject)
    (ordering_then (term_cmp x.predicate y.predicate) (term_cmp x.object y.object))
