-- The RDF vocabulary (RDF Schema 1.1, sections 3.3 and 5.2; RDF 1.1 Concepts, section 3.3).
use Rattle.std.specs.Prelude.{ℕ, List, ◌++◌, codes}
use Rattle.rdf_terms.specs.declared.term.Term.{Term}
use Rattle.rdf_terms.specs.declared.term.Term.TheVariants.{Iri}

-- the IRI of a word of this vocabulary, as a text
abbrev pub text_of : List ℕ → List ℕ
text_of word = codes "http://www.w3.org/1999/02/22-rdf-syntax-ns#" ++ word

-- the same as a term
abbrev pub term_of : List ℕ → Term
term_of word = Iri (text_of word)

abbrev pub type_ : Term
type_ = term_of (codes "type")

-- collections (RDF Schema 1.1, section 5.2)

abbrev pub first : Term
first = term_of (codes "first")

abbrev pub rest : Term
rest = term_of (codes "rest")

abbrev pub nil : Term
nil = term_of (codes "nil")

-- the datatype of literals with a language tag

abbrev pub lang_string : List ℕ
lang_string = text_of (codes "langString")
