-- What the functions that go by the kind of a token do at each kind.
use Rattle.std.proofs.Common.{◌≡◌, ℕ, Bool, true, false, List, [], ◌∷◌, Option, Some, None, refl, inl, inr}
use Rattle.std.specs.Prelude.{◌⊎◌, encode_utf8_all}
use Rattle.std.specs.Option.{option_map}
use Rattle.rdf_terms.specs.declared.term.Term.{Term}
use Rattle.rdf_terms.specs.declared.term.Term.TheVariants.{Iri, Literal}
use Rattle.rdf_terms.specs.Vocab.Xsd as xsd
use Rattle.turtle_tokens.specs.declared.kinds.TokenKind.{TokenKind}
use Rattle.turtle_tokens.specs.declared.kinds.TokenKind.TheVariants.{Dot, Comma, Semicolon, OpenBracket, CloseBracket, OpenParen, CloseParen, DoubleCaret, Anon, IriRef, PnameNs, PnameLn, BlankNodeLabel, LangTag, String, Integer, Decimal, Double, Word}
use Rattle.turtle_tokens.specs.Places.{PlacedToken}
use Rattle.turtle_terms.specs.declared.keywords.Keyword.{Keyword}
use Rattle.turtle_terms.specs.Keywords.{keyword_of}
use Rattle.turtle_terms.specs.Literals.{unquoted_literal}
use Rattle.turtle_statements.specs.declared.output.Output.{Output}
use Rattle.turtle_statements.specs.Names.{Names}
use Rattle.turtle_statements.specs.Terms.{KindNames}
use Rattle.turtle_statements.specs.Lexicon.{iri_of, label_of, tag_of, string_of}
use Rattle.turtle_statements.specs.Meaning.{new_node, one_more}
use Rattle.turtle_statements.specs.declared.marks.Opening.TheVariants.{Paren}
use Rattle.turtle_statements.specs.declared.marks.Opening.TheVariants as opening
use Rattle.turtle_statements.specs.declared.marks.Suffix.TheVariants as suffix
use Rattle.turtle_statements.specs.Running.{node_by, node_run, unquoted_run, term_by, opening_of, suffix_of}
use Rattle.turtle_statements.proofs.KindLaws.{starts_node, starts_plain, starts_subject, ends_string}

pub iri-no_keyword : (names : Names) (k : TokenKind) (text v bytes : List ℕ) → KindNames names k text v → keyword_of k bytes ≡ None
iri-no_keyword names Dot text v bytes h = absurd h
iri-no_keyword names Comma text v bytes h = absurd h
iri-no_keyword names Semicolon text v bytes h = absurd h
iri-no_keyword names OpenBracket text v bytes h = absurd h
iri-no_keyword names CloseBracket text v bytes h = absurd h
iri-no_keyword names OpenParen text v bytes h = absurd h
iri-no_keyword names CloseParen text v bytes h = absurd h
iri-no_keyword names DoubleCaret text v bytes h = absurd h
iri-no_keyword names Anon text v bytes h = absurd h
iri-no_keyword names IriRef text v bytes h = refl
iri-no_keyword names PnameNs text v bytes h = refl
iri-no_keyword names PnameLn text v bytes h = refl
iri-no_keyword names BlankNodeLabel text v bytes h = absurd h
iri-no_keyword names LangTag text v bytes h = absurd h
iri-no_keyword names String text v bytes h = absurd h
iri-no_keyword names Integer text v bytes h = absurd h
iri-no_keyword names Decimal text v bytes h = absurd h
iri-no_keyword names Double text v bytes h = absurd h
iri-no_keyword names Word text v bytes h = absurd h

abbrev pub iri_node : Names → PlacedToken → Output → Option (Term × Output)
iri_node names t o = option_map (λ iri. (Iri iri, o)) (iri_of names t)

pub node-iri : (names : Names) (t : PlacedToken) (o : Output) (k : TokenKind) (text v : List ℕ) → KindNames names k text v → node_by names t o k ≡ iri_node names t o
node-iri names t o Dot text v h = absurd h
node-iri names t o Comma text v h = absurd h
node-iri names t o Semicolon text v h = absurd h
node-iri names t o OpenBracket text v h = absurd h
node-iri names t o CloseBracket text v h = absurd h
node-iri names t o OpenParen text v h = absurd h
node-iri names t o CloseParen text v h = absurd h
node-iri names t o DoubleCaret text v h = absurd h
node-iri names t o Anon text v h = absurd h
node-iri names t o IriRef text v h = refl
node-iri names t o PnameNs text v h = refl
node-iri names t o PnameLn text v h = refl
node-iri names t o BlankNodeLabel text v h = absurd h
node-iri names t o LangTag text v h = absurd h
node-iri names t o String text v h = absurd h
node-iri names t o Integer text v h = absurd h
node-iri names t o Decimal text v h = absurd h
node-iri names t o Double text v h = absurd h
node-iri names t o Word text v h = absurd h

pub node-cases : (names : Names) (t : PlacedToken) (o : Output) (x : Term × Output) (k : TokenKind) → node_by names t o k ≡ Some x → (k ≡ BlankNodeLabel) ⊎ ((k ≡ Anon) ⊎ (iri_node names t o ≡ Some x))
node-cases names t o x Dot e = inr (inr e)
node-cases names t o x Comma e = inr (inr e)
node-cases names t o x Semicolon e = inr (inr e)
node-cases names t o x OpenBracket e = inr (inr e)
node-cases names t o x CloseBracket e = inr (inr e)
node-cases names t o x OpenParen e = inr (inr e)
node-cases names t o x CloseParen e = inr (inr e)
node-cases names t o x DoubleCaret e = inr (inr e)
node-cases names t o x Anon e = inr (inl refl)
node-cases names t o x IriRef e = inr (inr e)
node-cases names t o x PnameNs e = inr (inr e)
node-cases names t o x PnameLn e = inr (inr e)
node-cases names t o x BlankNodeLabel e = inl refl
node-cases names t o x LangTag e = inr (inr e)
node-cases names t o x String e = inr (inr e)
node-cases names t o x Integer e = inr (inr e)
node-cases names t o x Decimal e = inr (inr e)
node-cases names t o x Double e = inr (inr e)
node-cases names t o x Word e = inr (inr e)

abbrev pub plain_literal : List ℕ → Term
plain_literal lexical = Literal lexical xsd.string None

pub string-ends : (k : TokenKind) → ends_string k ≡ true → suffix_of k ≡ suffix.Neither
string-ends Dot h = refl
string-ends Comma h = refl
string-ends Semicolon h = refl
string-ends OpenBracket h = refl
string-ends CloseBracket h = refl
string-ends OpenParen h = refl
string-ends CloseParen h = refl
string-ends DoubleCaret h = absurd cc
string-ends Anon h = refl
string-ends IriRef h = refl
string-ends PnameNs h = refl
string-ends PnameLn h = refl
string-ends BlankNodeLabel h = refl
string-ends LangTag h = absurd cc
string-ends String h = refl
string-ends Integer h = refl
string-ends Decimal h = refl
string-ends Double h = refl
string-ends Word h = refl

pub suffix-cases : (k : TokenKind) → (k ≡ LangTag) ⊎ ((k ≡ DoubleCaret) ⊎ (suffix_of k ≡ suffix.Neither))
suffix-cases Dot = inr (inr refl)
suffix-cases Comma = inr (inr refl)
suffix-cases Semicolon = inr (inr refl)
suffix-cases OpenBracket = inr (inr refl)
suffix-cases CloseBracket = inr (inr refl)
suffix-cases OpenParen = inr (inr refl)
suffix-cases CloseParen = inr (inr refl)
suffix-cases DoubleCaret = inr (inl refl)
suffix-cases Anon = inr (inr refl)
suffix-cases IriRef = inr (inr refl)
suffix-cases PnameNs = inr (inr refl)
suffix-cases PnameLn = inr (inr refl)
suffix-cases BlankNodeLabel = inr (inr refl)
suffix-cases LangTag = inl refl
suffix-cases String = inr (inr refl)
suffix-cases Integer = inr (inr refl)
suffix-cases Decimal = inr (inr refl)
suffix-cases Double = inr (inr refl)
suffix-cases Word = inr (inr refl)

abbrev pub node_term : Names → PlacedToken → Output → List PlacedToken → Option ((Term × Output) × List PlacedToken)
node_term names t o ts = option_map (λ x. (x, ts)) (node_run names t o)

pub term-node : (names : Names) (t : PlacedToken) (o : Output) (ts : List PlacedToken) (k : TokenKind) → starts_node k ≡ true → term_by names t o ts k ≡ node_term names t o ts
term-node names t o ts Dot h = absurd cc
term-node names t o ts Comma h = absurd cc
term-node names t o ts Semicolon h = absurd cc
term-node names t o ts OpenBracket h = absurd cc
term-node names t o ts CloseBracket h = absurd cc
term-node names t o ts OpenParen h = absurd cc
term-node names t o ts CloseParen h = absurd cc
term-node names t o ts DoubleCaret h = absurd cc
term-node names t o ts Anon h = refl
term-node names t o ts IriRef h = refl
term-node names t o ts PnameNs h = refl
term-node names t o ts PnameLn h = refl
term-node names t o ts BlankNodeLabel h = refl
term-node names t o ts LangTag h = absurd cc
term-node names t o ts String h = absurd cc
term-node names t o ts Integer h = absurd cc
term-node names t o ts Decimal h = absurd cc
term-node names t o ts Double h = absurd cc
term-node names t o ts Word h = absurd cc

pub term-unquoted : (names : Names) (t : PlacedToken) (o : Output) (ts : List PlacedToken) (bytes : List ℕ) (v : Term) (k : TokenKind) → unquoted_literal k bytes ≡ Some v → term_by names t o ts k ≡ unquoted_run t o ts
term-unquoted names t o ts bytes v Dot h = absurd cc
term-unquoted names t o ts bytes v Comma h = absurd cc
term-unquoted names t o ts bytes v Semicolon h = absurd cc
term-unquoted names t o ts bytes v OpenBracket h = absurd cc
term-unquoted names t o ts bytes v CloseBracket h = absurd cc
term-unquoted names t o ts bytes v OpenParen h = absurd cc
term-unquoted names t o ts bytes v CloseParen h = absurd cc
term-unquoted names t o ts bytes v DoubleCaret h = absurd cc
term-unquoted names t o ts bytes v Anon h = absurd cc
term-unquoted names t o ts bytes v IriRef h = absurd cc
term-unquoted names t o ts bytes v PnameNs h = absurd cc
term-unquoted names t o ts bytes v PnameLn h = absurd cc
term-unquoted names t o ts bytes v BlankNodeLabel h = absurd cc
term-unquoted names t o ts bytes v LangTag h = absurd cc
term-unquoted names t o ts bytes v String h = absurd cc
term-unquoted names t o ts bytes v Integer h = refl
term-unquoted names t o ts bytes v Decimal h = refl
term-unquoted names t o ts bytes v Double h = refl
term-unquoted names t o ts bytes v Word h = refl

pub term-cases : (names : Names) (t : PlacedToken) (o : Output) (ts : List PlacedToken) (x : (Term × Output) × List PlacedToken) (k : TokenKind) → term_by names t o ts k ≡ Some x → (k ≡ String) ⊎ ((unquoted_run t o ts ≡ Some x) ⊎ (node_term names t o ts ≡ Some x))
term-cases names t o ts x Dot e = inr (inr e)
term-cases names t o ts x Comma e = inr (inr e)
term-cases names t o ts x Semicolon e = inr (inr e)
term-cases names t o ts x OpenBracket e = inr (inr e)
term-cases names t o ts x CloseBracket e = inr (inr e)
term-cases names t o ts x OpenParen e = inr (inr e)
term-cases names t o ts x CloseParen e = inr (inr e)
term-cases names t o ts x DoubleCaret e = inr (inr e)
term-cases names t o ts x Anon e = inr (inr e)
term-cases names t o ts x IriRef e = inr (inr e)
term-cases names t o ts x PnameNs e = inr (inr e)
term-cases names t o ts x PnameLn e = inr (inr e)
term-cases names t o ts x BlankNodeLabel e = inr (inr e)
term-cases names t o ts x LangTag e = inr (inr e)
term-cases names t o ts x String e = inl refl
term-cases names t o ts x Integer e = inr (inl e)
term-cases names t o ts x Decimal e = inr (inl e)
term-cases names t o ts x Double e = inr (inl e)
term-cases names t o ts x Word e = inr (inl e)

pub plain-opens : (k : TokenKind) → starts_plain k ≡ true → opening_of k ≡ opening.Neither
plain-opens Dot h = absurd cc
plain-opens Comma h = absurd cc
plain-opens Semicolon h = absurd cc
plain-opens OpenBracket h = absurd cc
plain-opens CloseBracket h = absurd cc
plain-opens OpenParen h = absurd cc
plain-opens CloseParen h = absurd cc
plain-opens DoubleCaret h = absurd cc
plain-opens Anon h = refl
plain-opens IriRef h = refl
plain-opens PnameNs h = refl
plain-opens PnameLn h = refl
plain-opens BlankNodeLabel h = refl
plain-opens LangTag h = absurd cc
plain-opens String h = refl
plain-opens Integer h = refl
plain-opens Decimal h = refl
plain-opens Double h = refl
plain-opens Word h = refl

pub node-opens : (k : TokenKind) → starts_node k ≡ true → opening_of k ≡ opening.Neither
node-opens Dot h = absurd cc
node-opens Comma h = absurd cc
node-opens Semicolon h = absurd cc
node-opens OpenBracket h = absurd cc
node-opens CloseBracket h = absurd cc
node-opens OpenParen h = absurd cc
node-opens CloseParen h = absurd cc
node-opens DoubleCaret h = absurd cc
node-opens Anon h = refl
node-opens IriRef h = refl
node-opens PnameNs h = refl
node-opens PnameLn h = refl
node-opens BlankNodeLabel h = refl
node-opens LangTag h = absurd cc
node-opens String h = absurd cc
node-opens Integer h = absurd cc
node-opens Decimal h = absurd cc
node-opens Double h = absurd cc
node-opens Word h = absurd cc

-- triples may begin with it
abbrev pub starts_triples : TokenKind → Bool
starts_triples IriRef = true
starts_triples PnameNs = true
starts_triples PnameLn = true
starts_triples BlankNodeLabel = true
starts_triples Anon = true
starts_triples OpenParen = true
starts_triples OpenBracket = true
starts_triples k = false

pub triples-no_keyword : (k : TokenKind) (bytes : List ℕ) → starts_triples k ≡ true → keyword_of k bytes ≡ None
triples-no_keyword Dot bytes h = absurd cc
triples-no_keyword Comma bytes h = absurd cc
triples-no_keyword Semicolon bytes h = absurd cc
triples-no_keyword OpenBracket bytes h = refl
triples-no_keyword CloseBracket bytes h = absurd cc
triples-no_keyword OpenParen bytes h = refl
triples-no_keyword CloseParen bytes h = absurd cc
triples-no_keyword DoubleCaret bytes h = absurd cc
triples-no_keyword Anon bytes h = refl
triples-no_keyword IriRef bytes h = refl
triples-no_keyword PnameNs bytes h = refl
triples-no_keyword PnameLn bytes h = refl
triples-no_keyword BlankNodeLabel bytes h = refl
triples-no_keyword LangTag bytes h = absurd cc
triples-no_keyword String bytes h = absurd cc
triples-no_keyword Integer bytes h = absurd cc
triples-no_keyword Decimal bytes h = absurd cc
triples-no_keyword Double bytes h = absurd cc
triples-no_keyword Word bytes h = absurd cc

pub node-starts_triples : (k : TokenKind) → starts_node k ≡ true → starts_triples k ≡ true
node-starts_triples Dot h = absurd cc
node-starts_triples Comma h = absurd cc
node-starts_triples Semicolon h = absurd cc
node-starts_triples OpenBracket h = absurd cc
node-starts_triples CloseBracket h = absurd cc
node-starts_triples OpenParen h = absurd cc
node-starts_triples CloseParen h = absurd cc
node-starts_triples DoubleCaret h = absurd cc
node-starts_triples Anon h = refl
node-starts_triples IriRef h = refl
node-starts_triples PnameNs h = refl
node-starts_triples PnameLn h = refl
node-starts_triples BlankNodeLabel h = refl
node-starts_triples LangTag h = absurd cc
node-starts_triples String h = absurd cc
node-starts_triples Integer h = absurd cc
node-starts_triples Decimal h = absurd cc
node-starts_triples Double h = absurd cc
node-starts_triples Word h = absurd cc

pub subject-opens : (k : TokenKind) → starts_subject k ≡ true → (opening_of k ≡ Paren) ⊎ (opening_of k ≡ opening.Neither)
subject-opens Dot h = absurd cc
subject-opens Comma h = absurd cc
subject-opens Semicolon h = absurd cc
subject-opens OpenBracket h = absurd cc
subject-opens CloseBracket h = absurd cc
subject-opens OpenParen h = inl refl
subject-opens CloseParen h = absurd cc
subject-opens DoubleCaret h = absurd cc
subject-opens Anon h = inr refl
subject-opens IriRef h = inr refl
subject-opens PnameNs h = inr refl
subject-opens PnameLn h = inr refl
subject-opens BlankNodeLabel h = inr refl
subject-opens LangTag h = absurd cc
subject-opens String h = absurd cc
subject-opens Integer h = absurd cc
subject-opens Decimal h = absurd cc
subject-opens Double h = absurd cc
subject-opens Word h = absurd cc

pub subject-starts_triples : (k : TokenKind) → starts_subject k ≡ true → starts_triples k ≡ true
subject-starts_triples Dot h = absurd cc
subject-starts_triples Comma h = absurd cc
subject-starts_triples Semicolon h = absurd cc
subject-starts_triples OpenBracket h = absurd cc
subject-starts_triples CloseBracket h = absurd cc
subject-starts_triples OpenParen h = refl
subject-starts_triples CloseParen h = absurd cc
subject-starts_triples DoubleCaret h = absurd cc
subject-starts_triples Anon h = refl
subject-starts_triples IriRef h = refl
subject-starts_triples PnameNs h = refl
subject-starts_triples PnameLn h = refl
subject-starts_triples BlankNodeLabel h = refl
subject-starts_triples LangTag h = absurd cc
subject-starts_triples String h = absurd cc
subject-starts_triples Integer h = absurd cc
subject-starts_triples Decimal h = absurd cc
subject-starts_triples Double h = absurd cc
subject-starts_triples Word h = absurd cc

-- ---- at the kinds that no arm of the code names

pub node-other : (names : Names) (t : PlacedToken) (o : Output) (k : TokenKind) → (k ≡ BlankNodeLabel → ⊥) → (k ≡ Anon → ⊥) → node_by names t o k ≡ iri_node names t o
node-other names t o Dot a b = refl
node-other names t o Comma a b = refl
node-other names t o Semicolon a b = refl
node-other names t o OpenBracket a b = refl
node-other names t o CloseBracket a b = refl
node-other names t o OpenParen a b = refl
node-other names t o CloseParen a b = refl
node-other names t o DoubleCaret a b = refl
node-other names t o Anon a b = absurd (b refl)
node-other names t o IriRef a b = refl
node-other names t o PnameNs a b = refl
node-other names t o PnameLn a b = refl
node-other names t o BlankNodeLabel a b = absurd (a refl)
node-other names t o LangTag a b = refl
node-other names t o String a b = refl
node-other names t o Integer a b = refl
node-other names t o Decimal a b = refl
node-other names t o Double a b = refl
node-other names t o Word a b = refl

pub term-other : (names : Names) (t : PlacedToken) (o : Output) (ts : List PlacedToken) (k : TokenKind) → (k ≡ String → ⊥) → (k ≡ Integer → ⊥) → (k ≡ Decimal → ⊥) → (k ≡ Double → ⊥) → (k ≡ Word → ⊥) → term_by names t o ts k ≡ node_term names t o ts
term-other names t o ts Dot a b c d e = refl
term-other names t o ts Comma a b c d e = refl
term-other names t o ts Semicolon a b c d e = refl
term-other names t o ts OpenBracket a b c d e = refl
term-other names t o ts CloseBracket a b c d e = refl
term-other names t o ts OpenParen a b c d e = refl
term-other names t o ts CloseParen a b c d e = refl
term-other names t o ts DoubleCaret a b c d e = refl
term-other names t o ts Anon a b c d e = refl
term-other names t o ts IriRef a b c d e = refl
term-other names t o ts PnameNs a b c d e = refl
term-other names t o ts PnameLn a b c d e = refl
term-other names t o ts BlankNodeLabel a b c d e = refl
term-other names t o ts LangTag a b c d e = refl
term-other names t o ts String a b c d e = absurd (a refl)
term-other names t o ts Integer a b c d e = absurd (b refl)
term-other names t o ts Decimal a b c d e = absurd (c refl)
term-other names t o ts Double a b c d e = absurd (d refl)
term-other names t o ts Word a b c d e = absurd (e refl)
