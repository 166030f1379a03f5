-- What one token stands for by itself, under the directives before it: RDF 1.1 Turtle, sections 6.3 to 6.5.
use Rattle.std.specs.Prelude.{◌≡◌, ℕ, List, Option, Some, encode_utf8_all}
use Rattle.rdf_terms.specs.declared.term.Term.{Term}
use Rattle.rdf_grammar.specs.declared.dialect.Dialect.TheVariants.{Turtle}
use Rattle.rdf_grammar.specs.Productions.{blank_node_label, langtag}
use Rattle.turtle_tokens.specs.declared.kinds.TokenKind.{TokenKind}
use Rattle.turtle_tokens.specs.declared.kinds.TokenKind.TheVariants as kind
use Rattle.turtle_tokens.specs.Places.{PlacedToken}
use Rattle.turtle_terms.specs.declared.keywords.Keyword.{Keyword}
use Rattle.turtle_terms.specs.Keywords.{keyword_of}
use Rattle.turtle_terms.specs.Literals.{unquoted_literal}
use Rattle.turtle_terms.specs.Names.{IsNameOf, expanded}
use Rattle.turtle_terms.specs.References.{Refers}
use Rattle.turtle_terms.specs.Strings.{string}
use Rattle.turtle_statements.specs.Names.{Names, namespace_of}

-- [136s] PrefixedName: the IRI of its prefix, and its local part behind that
pub record Expands (names : Names) (name iri : List ℕ) : Type 0 where
  pub prefix : List ℕ
  pub local : List ℕ
  pub namespace : List ℕ
  pub parts : IsNameOf name prefix local
  pub declared : namespace_of names (encode_utf8_all prefix) ≡ Some namespace
  pub stands : iri ≡ expanded namespace local

-- [135s] iri ::= IRIREF | PrefixedName
abbrev pub KindNames : Names → TokenKind → List ℕ → List ℕ → Type 0
KindNames names kind.IriRef text iri = Refers names.base text iri
KindNames names kind.PnameNs text iri = Expands names text iri
KindNames names kind.PnameLn text iri = Expands names text iri
KindNames names k text iri = ⊥

abbrev pub NamesIri : Names → PlacedToken → List ℕ → Type 0
NamesIri names t iri = KindNames names t.kind t.text iri

-- an IRIREF alone, as directives have it
pub record IsReference (names : Names) (t : PlacedToken) (iri : List ℕ) : Type 0 where
  pub is_reference : t.kind ≡ kind.IriRef
  pub refers : Refers names.base t.text iri

-- the prefix that a PNAME_NS declares stands before its colon
pub record IsPrefix (t : PlacedToken) (prefix : List ℕ) : Type 0 where
  pub is_namespace : t.kind ≡ kind.PnameNs
  pub characters : List ℕ
  pub local : List ℕ
  pub parts : IsNameOf t.text characters local
  pub spell : prefix ≡ encode_utf8_all characters

-- [141s] BLANK_NODE_LABEL
pub record HasLabel (t : PlacedToken) (label : List ℕ) : Type 0 where
  pub is_label : t.kind ≡ kind.BlankNodeLabel
  pub has : blank_node_label Turtle t.text label

-- [144s] LANGTAG
pub record HasTag (t : PlacedToken) (tag : List ℕ) : Type 0 where
  pub is_tag : t.kind ≡ kind.LangTag
  pub has : langtag t.text tag

-- [17] String
pub record HasString (t : PlacedToken) (lexical : List ℕ) : Type 0 where
  pub is_string : t.kind ≡ kind.String
  pub has : string t.text lexical

-- [16] NumericLiteral, [133s] BooleanLiteral
abbrev pub IsUnquoted : PlacedToken → Term → Type 0
IsUnquoted t v = unquoted_literal t.kind (encode_utf8_all t.text) ≡ Some v

abbrev pub IsKeyword : Keyword → PlacedToken → Unit {0} → Type 0
IsKeyword k t u = keyword_of t.kind (encode_utf8_all t.text) ≡ Some k

abbrev pub IsOfKind : TokenKind → PlacedToken → Unit {0} → Type 0
IsOfKind k t u = t.kind ≡ k
