-- Literals that are written without quotation marks: RDF 1.1 Turtle, sections 2.5.2 and 2.5.3.
use Rattle.std.specs.Prelude.{◌≢◌, ℕ, ◌||◌, Bool, cond, List, Option, Some, None, codes}
use Rattle.std.specs.Option.{option_map}
use Rattle.std.specs.Str.{bytes_eq}
use Rattle.rdf_terms.specs.declared.term.Term.{Term}
use Rattle.rdf_terms.specs.declared.term.Term.TheVariants.{Literal}
use Rattle.rdf_terms.specs.Vocab.Rdf.{lang_string}
use Rattle.rdf_terms.specs.Vocab.Xsd as xsd
use Rattle.rdf_grammar.specs.Lawful.{IsIri}
use Rattle.turtle_tokens.specs.declared.kinds.TokenKind.{TokenKind}
use Rattle.turtle_tokens.specs.declared.kinds.TokenKind.TheVariants.{Integer, Decimal, Double, Word}

-- [133s] BooleanLiteral ::= 'true' | 'false'
abbrev pub is_boolean : List ℕ → Bool
is_boolean bytes = bytes_eq bytes (codes "true") || bytes_eq bytes (codes "false")

-- [16] NumericLiteral ::= INTEGER | DECIMAL | DOUBLE
abbrev pub datatype_of : TokenKind → List ℕ → Option (List ℕ)
datatype_of Integer bytes = Some xsd.integer
datatype_of Decimal bytes = Some xsd.decimal
datatype_of Double bytes = Some xsd.double
datatype_of Word bytes = cond (is_boolean bytes) (Some xsd.boolean) None
datatype_of k bytes = None

-- the lexical form is the token as it is written
abbrev pub unquoted_literal : TokenKind → List ℕ → Option Term
unquoted_literal k bytes = option_map (λ d. Literal bytes d None) (datatype_of k bytes)

-- the IRI of a datatype whose literals have no tag
pub record IsDatatype (iri_bytes : List ℕ) : Type 0 where
  pub iri : IsIri iri_bytes
  pub untagged : iri_bytes ≢ lang_string
