-- The grammar of statements over tokens: RDF 1.1 Turtle, section 6.5. A form has a meaning only where its tokens have
-- one under the directives before it.
use Rattle.std.specs.Prelude.{◌≡◌, ◌≢◌, ℕ, zero, suc, List, [], ◌∷◌, Option, Some, None}
use Rattle.grammar_forms.specs.Forms.{Form, many, optional, Made, Where, ◌⨾◌, ◌▹◌, ◌◃◌, ◌∣◌}
use Rattle.rdf_terms.specs.declared.term.Term.{Term}
use Rattle.rdf_terms.specs.declared.term.Term.TheVariants.{Iri, Literal}
use Rattle.rdf_terms.specs.Vocab.Rdf as rdf
use Rattle.rdf_terms.specs.Vocab.Xsd as xsd
use Rattle.turtle_tokens.specs.declared.kinds.TokenKind.{TokenKind}
use Rattle.turtle_tokens.specs.declared.kinds.TokenKind.TheVariants.{Dot, Comma, Semicolon, OpenBracket, CloseBracket}
use Rattle.turtle_tokens.specs.declared.kinds.TokenKind.TheVariants.{OpenParen, CloseParen, DoubleCaret, Anon}
use Rattle.turtle_tokens.specs.Places.{PlacedToken}
use Rattle.turtle_terms.specs.declared.keywords.Keyword.{Keyword}
use Rattle.turtle_terms.specs.declared.keywords.Keyword.TheVariants.{A, Prefix, Base, SparqlPrefix, SparqlBase}
use Rattle.turtle_statements.specs.declared.output.Output.{Output}
use Rattle.turtle_statements.specs.Names.{Names, with_prefix, with_base}
use Rattle.turtle_statements.specs.Terms.{NamesIri, IsReference, IsPrefix, HasLabel, HasTag, HasString, IsUnquoted}
use Rattle.turtle_statements.specs.Terms.{IsKeyword, IsOfKind}
use Rattle.turtle_statements.specs.Meaning.{Says, Tells, says, says_label, says_new, says_collection, says_bracketed}
use Rattle.turtle_statements.specs.Meaning.{tells_objects, tells_properties, tells_triples, tells_bracketed}
use Rattle.turtle_statements.specs.Meaning.{directs, adds}

-- one token, with a meaning of its own
pub record Single {V : Type 0} (M : PlacedToken → V → Type 0) (tokens : List PlacedToken) (v : V) : Type 0 where
  pub token : PlacedToken
  pub alone : tokens ≡ token ∷ []
  pub means : M token v

abbrev pub kind : TokenKind → Form PlacedToken (Unit {0})
kind k = Single (IsOfKind k)

abbrev pub keyword : Keyword → Form PlacedToken (Unit {0})
keyword k = Single (IsKeyword k)

-- [135s] iri
abbrev pub iri : Names → Form PlacedToken (List ℕ)
iri names = Single (NamesIri names)

-- ---- literals

-- [128s] RDFLiteral ::= String (LANGTAG | '^^' iri)?. What stands behind the string means a datatype and a tag. A
-- literal with a datatype is no rdf:langString, which has a tag (RDF 1.1 Concepts, section 3.3)
abbrev pub of_tag : List ℕ → List ℕ × Option (List ℕ)
of_tag tag = (rdf.lang_string, Some tag)

abbrev pub of_datatype : List ℕ → List ℕ × Option (List ℕ)
of_datatype datatype = (datatype, None)

abbrev pub IsNotLangString : List ℕ → Type 0
IsNotLangString datatype = datatype ≢ rdf.lang_string

abbrev pub string_kind : Names → Form PlacedToken (List ℕ × Option (List ℕ))
string_kind names =
    Made of_tag (Single HasTag) ∣ Made of_datatype (kind DoubleCaret ▹ Where IsNotLangString (iri names))

abbrev pub kind_of : Option (List ℕ × Option (List ℕ)) → List ℕ × Option (List ℕ)
kind_of None = (xsd.string, None)
kind_of (Some k) = k

abbrev pub literal_of : List ℕ × Option (List ℕ × Option (List ℕ)) → Term
literal_of v = Literal v.0 (kind_of v.1).0 (kind_of v.1).1

-- [13] literal ::= RDFLiteral | NumericLiteral | BooleanLiteral
abbrev pub literal : Names → Form PlacedToken Term
literal names = Made literal_of (Single HasString ⨾ optional (string_kind names)) ∣ Single IsUnquoted

-- ---- terms

-- iri | BLANK_NODE_LABEL | ANON
abbrev pub says_iri : List ℕ → Says
says_iri iri = says (Iri iri)

abbrev pub node : Names → Form PlacedToken Says
node names =
    Made says_iri (iri names) ∣ Made (says_label names.role) (Single HasLabel)
    ∣ Made (says_new names.role) (kind Anon)

abbrev pub plain_term : Names → Form PlacedToken Says
plain_term names = node names ∣ Made says (literal names)

-- [9] verb ::= predicate | 'a'
abbrev pub type_of : Unit {0} → Term
type_of u = rdf.type_

abbrev pub verb : Names → Form PlacedToken Term
verb names = Made Iri (iri names) ∣ Made type_of (keyword A)

-- verb objectList, where [8] objectList ::= object (',' object)*
abbrev pub objects : Names → Form PlacedToken Says → Form PlacedToken Tells
objects names O = Made tells_objects (verb names ⨾ O ⨾ many (kind Comma ▹ O))

-- [7] predicateObjectList ::= verb objectList (';' (verb objectList)?)*
abbrev pub properties : Names → Form PlacedToken Says → Form PlacedToken Tells
properties names O = Made tells_properties (objects names O ⨾ many (kind Semicolon ▹ optional (objects names O)))

-- [15] collection ::= '(' object* ')'
abbrev pub collection : Names → Form PlacedToken Says → Form PlacedToken Says
collection names O = Made (says_collection names.role) (kind OpenParen ▹ many O ◃ kind CloseParen)

-- [14] blankNodePropertyList ::= '[' predicateObjectList ']'
abbrev pub bracketed : Names → Form PlacedToken Says → Form PlacedToken Says
bracketed names O = Made (says_bracketed names.role) (kind OpenBracket ▹ properties names O ◃ kind CloseBracket)

-- [12] object ::= iri | BlankNode | collection | blankNodePropertyList | literal, with at most so many brackets inside
-- one another
unfoldable pub object : Names → ℕ → Form PlacedToken Says
object names zero = plain_term names
object names (suc depth) =
    plain_term names ∣ collection names (object names depth) ∣ bracketed names (object names depth)

-- objects hold no more brackets than these inside one another; that no more are open in all is asked of the tokens
-- before (turtle_tokens: Faults)
abbrev pub most_open : ℕ
most_open = 128

abbrev pub any_object : Names → Form PlacedToken Says
any_object names = object names most_open

-- ---- statements

-- [10] subject ::= iri | BlankNode | collection
abbrev pub subject : Names → Form PlacedToken Says
subject names = node names ∣ collection names (any_object names)

-- [6] triples ::= subject predicateObjectList | blankNodePropertyList predicateObjectList?
abbrev pub triples : Names → Form PlacedToken (Output → Output)
triples names =
    Made tells_triples (subject names ⨾ properties names (any_object names))
    ∣ Made tells_bracketed (bracketed names (any_object names) ⨾ optional (properties names (any_object names)))

-- [4] prefixID ::= '@prefix' PNAME_NS IRIREF '.', [6s] sparqlPrefix ::= "PREFIX" PNAME_NS IRIREF
abbrev pub prefix_part : Names → Form PlacedToken Names
prefix_part names = Made (with_prefix names) (Single IsPrefix ⨾ Single (IsReference names))

-- [5] base ::= '@base' IRIREF '.', [5s] sparqlBase ::= "BASE" IRIREF
abbrev pub base_part : Names → Form PlacedToken Names
base_part names = Made (with_base names) (Single (IsReference names))

-- [3] directive ::= prefixID | base | sparqlPrefix | sparqlBase. It means the names from there on
abbrev pub directive : Names → Form PlacedToken Names
directive names =
    keyword Prefix ▹ prefix_part names ◃ kind Dot ∣ keyword Base ▹ base_part names ◃ kind Dot
    ∣ keyword SparqlPrefix ▹ prefix_part names ∣ keyword SparqlBase ▹ base_part names

-- [2] statement ::= directive | triples '.'. It means the names from there on, and what is said behind it
abbrev pub statement : Names → Form PlacedToken (Names × (Output → Output))
statement names = Made directs (directive names) ∣ Made (adds names) (triples names ◃ kind Dot)
