-- The order of terms. It is the project's own: RDF gives none. Two terms tie exactly where they are
-- equal as RDF 1.1 Concepts 3.2 to 3.4 has it: IRIs and the parts of literals character by
-- character, blank nodes by their document and label.
use Rattle.std.specs.Prelude.{ℕ, List, Option, None, Some}
use Rattle.std.specs.declared.cmp.Ordering.{Ordering}
use Rattle.std.specs.declared.cmp.Ordering.TheVariants.{Less, Equal, Greater}
use Rattle.std.specs.Ordering.{ordering_then, nat_cmp}
use Rattle.std.specs.Cmp.Lexicographic.{slice_cmp}
use Rattle.rdf_terms.specs.declared.term.Scope.{Scope}
use Rattle.rdf_terms.specs.declared.term.Scope.TheVariants.{Data, Shapes}
use Rattle.rdf_terms.specs.declared.term.Term.{Term}
use Rattle.rdf_terms.specs.declared.term.Term.TheVariants.{Iri, Blank, Literal}

-- texts by their bytes
abbrev pub text_cmp : List ℕ → List ℕ → Ordering
text_cmp = slice_cmp nat_cmp

-- data before shapes
abbrev pub scope_cmp : Scope → Scope → Ordering
scope_cmp Data Data = Equal
scope_cmp Data Shapes = Less
scope_cmp Shapes Data = Greater
scope_cmp Shapes Shapes = Equal

-- no tag comes first
abbrev pub tag_cmp : Option (List ℕ) → Option (List ℕ) → Ordering
tag_cmp None None = Equal
tag_cmp None (Some t) = Less
tag_cmp (Some s) None = Greater
tag_cmp (Some s) (Some t) = text_cmp s t

-- IRIs come before blank nodes, and these before literals
abbrev pub term_cmp : Term → Term → Ordering
term_cmp (Iri a) (Iri b) = text_cmp a b
term_cmp (Iri a) (Blank s b) = Less
term_cmp (Iri a) (Literal l d t) = Less
term_cmp (Blank r a) (Iri b) = Greater
term_cmp (Blank r a) (Blank s b) = ordering_then (scope_cmp r s) (text_cmp a b)
term_cmp (Blank r a) (Literal l d t) = Less
term_cmp (Literal k c s) (Iri b) = Greater
term_cmp (Literal k c s) (Blank r b) = Greater
term_cmp (Literal k c s) (Literal l d t) = ordering_then (text_cmp k l) (ordering_then (text_cmp c d) (tag_cmp s t))
