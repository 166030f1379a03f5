-- Terms that a document can have: RDF 1.1 Concepts, section 3.
use Rattle.std.specs.Prelude.{◌≡◌, ℕ, true, List, Option, ◌↔◌, IfSome, IsSome, encode_utf8_all}
use Rattle.std.specs.List.{list_all}
use Rattle.std.specs.Str.{IsUtf8, str_to_ascii_lowercase}
use Rattle.rdf_terms.specs.declared.term.Term.{Term}
use Rattle.rdf_terms.specs.declared.term.Term.TheVariants.{Iri, Blank, Literal}
use Rattle.rdf_terms.specs.Statement.{Statement}
use Rattle.rdf_terms.specs.Vocab.Rdf.{lang_string}
use Rattle.rdf_grammar.specs.declared.dialect.Dialect.TheVariants.{NTriples}
use Rattle.rdf_grammar.specs.Productions.{is_iri_char, BeginsWithScheme, label, tag}

-- the UTF-8 of IRICHARs that begin with a scheme
pub record IsIri (bytes : List ℕ) : Type 0 where
  pub characters : List ℕ
  pub spell : encode_utf8_all characters ≡ bytes
  pub each : list_all is_iri_char characters ≡ true
  pub scheme : BeginsWithScheme bytes

-- the UTF-8 of a BLANK_NODE_LABEL of N-Triples
pub record IsLabel (bytes : List ℕ) : Type 0 where
  pub characters : List ℕ
  pub spell : encode_utf8_all characters ≡ bytes
  pub is_label : label NTriples characters tt

-- a LANGTAG in lower case, whose characters are its bytes since it is ASCII
pub record IsTag (bytes : List ℕ) : Type 0 where
  pub is_tag : tag bytes tt
  pub lower : str_to_ascii_lowercase bytes ≡ bytes

-- a literal has a tag exactly where its datatype is rdf:langString
pub record IsLiteral (lexical datatype : List ℕ) (tag : Option (List ℕ)) : Type 0 where
  pub text : IsUtf8 lexical
  pub iri : IsIri datatype
  pub tagged : (datatype ≡ lang_string) ↔ IsSome tag
  pub lower : IfSome tag IsTag

abbrev pub IsLawful : Term → Type 0
IsLawful (Iri i) = IsIri i
IsLawful (Blank s l) = IsLabel l
IsLawful (Literal l d t) = IsLiteral l d t

pub record IsLawfulTriple (t : Statement) : Type 0 where
  pub subject : IsLawful t.subject
  pub predicate : IsLawful t.predicate
  pub object : IsLawful t.object
