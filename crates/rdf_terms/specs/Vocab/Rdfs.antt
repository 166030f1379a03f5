-- The vocabulary of RDF Schema 1.1 (sections 2.2 and 3.4).
use Rattle.std.specs.Prelude.{ℕ, List, ◌++◌, codes}
use Rattle.rdf_terms.specs.declared.term.Term.{Term}
use Rattle.rdf_terms.specs.declared.term.Term.TheVariants.{Iri}

-- the IRI of a word of this vocabulary
abbrev pub term_of : List ℕ → Term
term_of word = Iri (codes "http://www.w3.org/2000/01/rdf-schema#" ++ word)

abbrev pub sub_class_of : Term
sub_class_of = term_of (codes "subClassOf")

abbrev pub class : Term
class = term_of (codes "Class")
