-- Reading tokens from the left, and saying at once what they say. Each function is that of the code. Private functions
-- cite it.
use Rattle.std.specs.Prelude.{ℕ, zero, suc, ◌==◌, Bool, true, false, cond, List, [], ◌∷◌, length, Option, Some, None}
use Rattle.std.specs.Prelude.{option_and_then, encode_utf8_all}
use Rattle.std.specs.Option.{option_map}
use Rattle.std.specs.Str.{bytes_eq}
use Rattle.grammar_forms.specs.Reading.{Read}
use Rattle.rdf_terms.specs.declared.term.Term.{Term}
use Rattle.rdf_terms.specs.declared.term.Term.TheVariants.{Iri, Blank, Literal}
use Rattle.rdf_terms.specs.Vocab.Rdf as rdf
use Rattle.rdf_terms.specs.Vocab.Xsd as xsd
use Rattle.turtle_tokens.specs.declared.kinds.TokenKind.{TokenKind}
use Rattle.turtle_tokens.specs.declared.kinds.TokenKind.TheVariants as kind
use Rattle.turtle_tokens.specs.Places.{PlacedToken}
use Rattle.turtle_terms.specs.declared.keywords.Keyword.{Keyword}
use Rattle.turtle_terms.specs.declared.keywords.Keyword.TheVariants.{A, Prefix, Base, SparqlPrefix, SparqlBase}
use Rattle.turtle_terms.specs.Keywords.{keyword_of}
use Rattle.turtle_terms.specs.Literals.{unquoted_literal}
use Rattle.turtle_statements.specs.declared.role.Role.{Role}
use Rattle.turtle_statements.specs.declared.output.Output.{Output}
use Rattle.turtle_statements.specs.declared.marks.Opening.{Opening}
use Rattle.turtle_statements.specs.declared.marks.Opening.TheVariants.{Paren, Bracket}
use Rattle.turtle_statements.specs.declared.marks.Opening.TheVariants as opening
use Rattle.turtle_statements.specs.declared.marks.Suffix.{Suffix}
use Rattle.turtle_statements.specs.declared.marks.Suffix.TheVariants.{Tag, Datatype}
use Rattle.turtle_statements.specs.declared.marks.Suffix.TheVariants as suffix
use Rattle.turtle_statements.specs.declared.statement.Start.{Start}
use Rattle.turtle_statements.specs.declared.statement.Start.TheVariants as start
use Rattle.turtle_statements.specs.Names.{Names, with_prefix, with_base}
use Rattle.turtle_statements.specs.Lexicon.{iri_of, reference_iri, prefix_before_colon, label_of, tag_of, string_of}
use Rattle.turtle_statements.specs.Meaning.{scope_of, new_node, one_more, say}
use Rattle.turtle_statements.specs.Grammar.{most_open}

-- ---- marks

-- kinds by number
abbrev pub code : TokenKind → ℕ
code kind.Dot = 0
code kind.Comma = 1
code kind.Semicolon = 2
code kind.OpenBracket = 3
code kind.CloseBracket = 4
code kind.OpenParen = 5
code kind.CloseParen = 6
code kind.DoubleCaret = 7
code kind.Anon = 8
code kind.IriRef = 9
code kind.PnameNs = 10
code kind.PnameLn = 11
code kind.BlankNodeLabel = 12
code kind.LangTag = 13
code kind.String = 14
code kind.Integer = 15
code kind.Decimal = 16
code kind.Double = 17
code kind.Word = 18

abbrev pub is_kind : TokenKind → TokenKind → Bool
is_kind k j = code k == code j

-- the first token, and those behind it
abbrev pub uncons : List PlacedToken → Read PlacedToken PlacedToken
uncons [] = None
uncons (t ∷ ts) = Some (t, ts)

abbrev pub strip_kind : TokenKind → List PlacedToken → Option (List PlacedToken)
strip_kind k ts = option_and_then (λ x. cond (is_kind x.0.kind k) (Some x.1) None) (uncons ts)

abbrev pub can_begin_verb : TokenKind → Bool
can_begin_verb kind.IriRef = true
can_begin_verb kind.PnameNs = true
can_begin_verb kind.PnameLn = true
can_begin_verb kind.Word = true
can_begin_verb k = false

abbrev pub verb_begins : Read PlacedToken PlacedToken → Bool
verb_begins None = false
verb_begins (Some x) = can_begin_verb x.0.kind

abbrev pub begins_verb : List PlacedToken → Bool
begins_verb ts = verb_begins (uncons ts)

-- what bracket a term begins with
abbrev pub opening_of : TokenKind → Opening
opening_of kind.OpenParen = Paren
opening_of kind.OpenBracket = Bracket
opening_of k = opening.Neither

abbrev pub opens : Read PlacedToken PlacedToken → Opening
opens None = opening.Neither
opens (Some x) = opening_of x.0.kind

abbrev pub opening_at : List PlacedToken → Opening
opening_at ts = opens (uncons ts)

-- what stands behind a string
abbrev pub suffix_of : TokenKind → Suffix
suffix_of kind.LangTag = Tag
suffix_of kind.DoubleCaret = Datatype
suffix_of k = suffix.Neither

abbrev pub follows : Read PlacedToken PlacedToken → Suffix
follows None = suffix.Neither
follows (Some x) = suffix_of x.0.kind

abbrev pub suffix_at : List PlacedToken → Suffix
suffix_at ts = follows (uncons ts)

-- ---- terms without brackets

abbrev pub token_keyword : PlacedToken → Option Keyword
token_keyword t = keyword_of t.kind (encode_utf8_all t.text)

abbrev pub is_a : Option Keyword → Bool
is_a (Some A) = true
is_a k = false

abbrev pub verb_by : Names → PlacedToken → Bool → Option Term
verb_by names t true = Some rdf.type_
verb_by names t false = option_map Iri (iri_of names t)

abbrev pub verb_at : Names → List PlacedToken → Read PlacedToken Term
verb_at names ts =
    option_and_then (λ x. option_map (λ v. (v, x.1)) (verb_by names x.0 (is_a (token_keyword x.0)))) (uncons ts)

abbrev pub node_by : Names → PlacedToken → Output → TokenKind → Option (Term × Output)
node_by names t o kind.BlankNodeLabel = option_map (λ label. (Blank (scope_of names.role) label, o)) (label_of t.text)
node_by names t o kind.Anon = Some (new_node names.role o, one_more o)
node_by names t o k = option_map (λ iri. (Iri iri, o)) (iri_of names t)

abbrev pub node_run : Names → PlacedToken → Output → Option (Term × Output)
node_run names t o = node_by names t o t.kind

abbrev pub datatype_at : Names → List PlacedToken → Read PlacedToken (List ℕ)
datatype_at names ts =
    option_and_then
    (λ x. option_and_then (λ iri. cond (bytes_eq iri rdf.lang_string) None (Some (iri, x.1))) (iri_of names x.0))
    (uncons ts)

abbrev pub tagged_at : List ℕ → List PlacedToken → Read PlacedToken Term
tagged_at lexical ts =
    option_and_then
    (λ x. option_map (λ tag. (Literal lexical rdf.lang_string (Some tag), x.1)) (tag_of x.0.text)) (uncons ts)

abbrev pub typed_at : Names → List ℕ → List PlacedToken → Read PlacedToken Term
typed_at names lexical ts =
    option_and_then (λ x. option_map (λ d. (Literal lexical d.0 None, d.1)) (datatype_at names x.1)) (uncons ts)

abbrev pub quoted_by : Names → List ℕ → List PlacedToken → Suffix → Read PlacedToken Term
quoted_by names lexical ts Tag = tagged_at lexical ts
quoted_by names lexical ts Datatype = typed_at names lexical ts
quoted_by names lexical ts suffix.Neither = Some (Literal lexical xsd.string None, ts)

abbrev pub quoted_at : Names → List ℕ → List PlacedToken → Read PlacedToken Term
quoted_at names lexical ts = quoted_by names lexical ts (suffix_at ts)

abbrev pub unquoted_run : PlacedToken → Output → List PlacedToken → Read PlacedToken (Term × Output)
unquoted_run t o ts = option_map (λ v. ((v, o), ts)) (unquoted_literal t.kind (encode_utf8_all t.text))

abbrev pub term_by : Names → PlacedToken → Output → List PlacedToken → TokenKind → Read PlacedToken (Term × Output)
term_by names t o ts kind.String =
    option_and_then (λ lexical. option_map (λ x. ((x.0, o), x.1)) (quoted_at names lexical ts)) (string_of t.text)
term_by names t o ts kind.Integer = unquoted_run t o ts
term_by names t o ts kind.Decimal = unquoted_run t o ts
term_by names t o ts kind.Double = unquoted_run t o ts
term_by names t o ts kind.Word = unquoted_run t o ts
term_by names t o ts k = option_map (λ x. (x, ts)) (node_run names t o)

unfoldable pub term_run : Names → Output → List PlacedToken → Read PlacedToken (Term × Output)
term_run names o ts = option_and_then (λ x. term_by names x.0 o x.1 x.0.kind) (uncons ts)

-- ---- brackets, over a function that reads the objects in them

abbrev pub RunsObject : Type 0
RunsObject = Output → List PlacedToken → Read PlacedToken (Term × Output)

abbrev pub RunsTokens : Type 0
RunsTokens = Output → List PlacedToken → Read PlacedToken Output

-- an object, and the triple that it is the object of
abbrev pub said_object : RunsObject → Term → Term → Output → List PlacedToken → Read PlacedToken Output
said_object r subject verb o ts = option_map (λ x. (say subject verb x.0.0 x.0.1, x.1)) (r o ts)

-- what stands behind a member of a collection: its end, or the next member, with a cell of its own
abbrev pub member_next : Role → (Term → RunsTokens) → Term → Output → List PlacedToken → Option (List PlacedToken)
    → Read PlacedToken Output
member_next role go cell o ts (Some after) = Some (say cell rdf.rest rdf.nil o, after)
member_next role go cell o ts None = go (new_node role o) (say cell rdf.rest (new_node role o) (one_more o)) ts

-- the members of a collection, from the one of this cell on. The number bounds how many there are
unfoldable pub members_run : Role → RunsObject → ℕ → Term → Output → List PlacedToken → Read PlacedToken Output
members_run role r zero cell o ts = None
members_run role r (suc n) cell o ts =
    option_and_then
    (λ y. member_next role (members_run role r n) cell y.0 y.1 (strip_kind kind.CloseParen y.1))
    (said_object r cell rdf.first o ts)

-- the member of the cell behind this one, and that cell
abbrev pub next_member : Role → RunsObject → Term → RunsObject
next_member role r cell o ts =
    option_map (λ y. ((new_node role o, y.0), y.1))
    (said_object r (new_node role o) rdf.first (say cell rdf.rest (new_node role o) (one_more o)) ts)

abbrev pub collection_inside : Role → RunsObject → Output → List PlacedToken → Option (List PlacedToken)
    → Read PlacedToken (Term × Output)
collection_inside role r o ts (Some after) = Some ((rdf.nil, o), after)
collection_inside role r o ts None =
    option_map (λ x. ((new_node role o, x.0), x.1)) (members_run role r (length ts) (new_node role o) (one_more o) ts)

unfoldable pub collection_run : Role → RunsObject → RunsObject
collection_run role r o ts =
    option_and_then
    (λ inner. collection_inside role r o inner (strip_kind kind.CloseParen inner)) (strip_kind kind.OpenParen ts)

-- further objects behind commas
abbrev pub comma_next : RunsObject → RunsTokens → Term → Term → Output → List PlacedToken → Option (List PlacedToken)
    → Read PlacedToken Output
comma_next r go subject verb o ts None = Some (o, ts)
comma_next r go subject verb o ts (Some after) = option_and_then (λ y. go y.0 y.1) (said_object r subject verb o after)

unfoldable pub commas_run : RunsObject → ℕ → Term → Term → Output → List PlacedToken → Read PlacedToken Output
commas_run r zero subject verb o ts = Some (o, ts)
commas_run r (suc n) subject verb o ts =
    comma_next r (commas_run r n subject verb) subject verb o ts (strip_kind kind.Comma ts)

abbrev pub object_list_run : RunsObject → Term → Term → RunsTokens
object_list_run r subject verb o ts =
    option_and_then (λ y. commas_run r (length y.1) subject verb y.0 y.1) (said_object r subject verb o ts)

unfoldable pub objects_run : Names → RunsObject → Term → Output → List PlacedToken → Read PlacedToken Output
objects_run names r subject o ts = option_and_then (λ v. object_list_run r subject v.0 o v.1) (verb_at names ts)

-- a verb and its objects, where a verb begins
abbrev pub optional_objects : Names → RunsObject → Term → Output → List PlacedToken → Read PlacedToken Output
optional_objects names r subject o ts = cond (begins_verb ts) (objects_run names r subject o ts) (Some (o, ts))

-- further verbs behind semicolons
abbrev pub semicolon_next : Names → RunsObject → RunsTokens → Term → Output → List PlacedToken
    → Option (List PlacedToken) → Read PlacedToken Output
semicolon_next names r go subject o ts None = Some (o, ts)
semicolon_next names r go subject o ts (Some after) =
    option_and_then (λ x. go x.0 x.1) (optional_objects names r subject o after)

unfoldable pub semicolons_run : Names → RunsObject → ℕ → Term → Output → List PlacedToken → Read PlacedToken Output
semicolons_run names r zero subject o ts = Some (o, ts)
semicolons_run names r (suc n) subject o ts =
    semicolon_next names r (semicolons_run names r n subject) subject o ts (strip_kind kind.Semicolon ts)

unfoldable pub properties_run : Names → RunsObject → Term → Output → List PlacedToken → Read PlacedToken Output
properties_run names r subject o ts =
    option_and_then (λ x. semicolons_run names r (length x.1) subject x.0 x.1) (objects_run names r subject o ts)

unfoldable pub bracketed_run : Names → RunsObject → RunsObject
bracketed_run names r o ts =
    option_and_then
    (λ inner. option_and_then
    (λ x. option_map (λ after. ((new_node names.role o, x.0), after)) (strip_kind kind.CloseBracket x.1))
    (properties_run names r (new_node names.role o) (one_more o) inner))
    (strip_kind kind.OpenBracket ts)

abbrev pub object_by : {A : Type 0} → Opening → A → A → A → A
object_by Paren c b t = c
object_by Bracket c b t = b
object_by opening.Neither c b t = t

unfoldable pub object_run : Names → ℕ → RunsObject
object_run names zero o ts = term_run names o ts
object_run names (suc depth) o ts =
    object_by (opening_at ts) (collection_run names.role (object_run names depth) o ts)
    (bracketed_run names (object_run names depth) o ts) (term_run names o ts)

-- ---- statements

abbrev pub node_at : Names → RunsObject
node_at names o ts = option_and_then (λ x. option_map (λ y. (y, x.1)) (node_run names x.0 o)) (uncons ts)

abbrev pub subject_by : Names → Output → List PlacedToken → Opening → Read PlacedToken (Term × Output)
subject_by names o ts Paren = collection_run names.role (object_run names most_open) o ts
subject_by names o ts Bracket = node_at names o ts
subject_by names o ts opening.Neither = node_at names o ts

unfoldable pub subject_run : Names → RunsObject
subject_run names o ts = subject_by names o ts (opening_at ts)

abbrev pub tell_properties : Names → (Term × Output) × List PlacedToken → Read PlacedToken Output
tell_properties names x = properties_run names (object_run names most_open) x.0.0 x.0.1 x.1

abbrev pub tell_optional : Names → (Term × Output) × List PlacedToken → Read PlacedToken Output
tell_optional names x = cond (begins_verb x.1) (tell_properties names x) (Some (x.0.1, x.1))

abbrev pub with_subject : Names → Output → List PlacedToken → Read PlacedToken Output
with_subject names o ts = option_and_then (tell_properties names) (subject_run names o ts)

abbrev pub with_bracket : Names → Output → List PlacedToken → Read PlacedToken Output
with_bracket names o ts = option_and_then (tell_optional names) (bracketed_run names (object_run names most_open) o ts)

abbrev pub triples_by : Names → Output → List PlacedToken → Opening → Read PlacedToken Output
triples_by names o ts Bracket = with_bracket names o ts
triples_by names o ts Paren = with_subject names o ts
triples_by names o ts opening.Neither = with_subject names o ts

unfoldable pub triples_run : Names → Output → List PlacedToken → Read PlacedToken Output
triples_run names o ts = triples_by names o ts (opening_at ts)

-- directives

unfoldable pub reference_at : Names → List PlacedToken → Read PlacedToken (List ℕ)
reference_at names ts =
    option_and_then
    (λ x. cond (is_kind x.0.kind kind.IriRef) (option_map (λ iri. (iri, x.1)) (reference_iri names x.0.text)) None)
    (uncons ts)

abbrev pub prefix_of : PlacedToken → Option (List ℕ)
prefix_of t = cond (is_kind t.kind kind.PnameNs) (prefix_before_colon t.text) None

unfoldable pub prefix_at : Names → List PlacedToken → Read PlacedToken Names
prefix_at names ts =
    option_and_then
    (λ x. option_and_then
    (λ prefix. option_map (λ y. (with_prefix names (prefix, y.0), y.1)) (reference_at names x.1)) (prefix_of x.0))
    (uncons ts)

unfoldable pub base_at : Names → List PlacedToken → Read PlacedToken Names
base_at names ts = option_map (λ x. (with_base names x.0, x.1)) (reference_at names ts)

abbrev pub dotted : {A : Type 0} → Read PlacedToken A → Read PlacedToken A
dotted o = option_and_then (λ x. option_map (λ after. (x.0, after)) (strip_kind kind.Dot x.1)) o

-- the names and what is said behind the statement, and the tokens that are left
abbrev pub directed : Output → Read PlacedToken Names → Read PlacedToken (Names × Output)
directed o r = option_map (λ x. ((x.0, o), x.1)) r

abbrev pub start_of : Option Keyword → Start
start_of (Some Prefix) = start.Prefix
start_of (Some Base) = start.Base
start_of (Some SparqlPrefix) = start.SparqlPrefix
start_of (Some SparqlBase) = start.SparqlBase
start_of k = start.Triples

abbrev pub statement_by : Names → Output → List PlacedToken → List PlacedToken → Start
    → Read PlacedToken (Names × Output)
statement_by names o all ts start.Prefix = directed o (dotted (prefix_at names ts))
statement_by names o all ts start.Base = directed o (dotted (base_at names ts))
statement_by names o all ts start.SparqlPrefix = directed o (prefix_at names ts)
statement_by names o all ts start.SparqlBase = directed o (base_at names ts)
statement_by names o all ts start.Triples = option_map (λ x. ((names, x.0), x.1)) (dotted (triples_run names o all))

unfoldable pub statement_at : Names → Output → List PlacedToken → Read PlacedToken (Names × Output)
statement_at names o ts = option_and_then (λ x. statement_by names o ts x.1 (start_of (token_keyword x.0))) (uncons ts)

abbrev pub all_by : {A : Type 0} → A → List PlacedToken → Option A
all_by v [] = Some v
all_by v (t ∷ ts) = None

abbrev pub only_all : {A : Type 0} → A × List PlacedToken → Option A
only_all x = all_by x.0 x.1

-- all tokens of one statement
abbrev pub statement_run : Names → Output → List PlacedToken → Option (Names × Output)
statement_run names o ts = option_and_then only_all (statement_at names o ts)
