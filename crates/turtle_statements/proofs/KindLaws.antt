-- The kinds of tokens: which may stand where.
use Rattle.std.proofs.Common.{◌≡◌, ℕ, Bool, true, false, cond, List, [], ◌∷◌, ◌++◌, length, ◌<◌, Some, None, refl, sym, ap, ◌∙◌, arith, eq-eqb}
use Rattle.std.specs.Prelude.{◌==◌, Option}
use Rattle.std.proofs.lemmas.Bool.{eqb-true}
use Rattle.grammar_forms.proofs.Exactness.{some_is}
use Rattle.rdf_terms.specs.declared.term.Term.{Term}
use Rattle.turtle_tokens.specs.declared.kinds.TokenKind.{TokenKind}
use Rattle.turtle_tokens.specs.declared.kinds.TokenKind.TheVariants.{Dot, Comma, Semicolon, OpenBracket, CloseBracket, OpenParen, CloseParen, DoubleCaret, Anon, IriRef, PnameNs, PnameLn, BlankNodeLabel, LangTag, String, Integer, Decimal, Double, Word}
use Rattle.turtle_tokens.specs.Places.{PlacedToken}
use Rattle.turtle_terms.specs.Literals.{unquoted_literal}
use Rattle.turtle_statements.specs.Names.{Names}
use Rattle.turtle_statements.specs.Terms.{KindNames}
use Rattle.turtle_statements.specs.Running.{code, is_kind, strip_kind, can_begin_verb}

-- the kind of a number
kind_at : ℕ → TokenKind
kind_at n =
    cond (n == 0) Dot (
    cond (n == 1) Comma (
    cond (n == 2) Semicolon (
    cond (n == 3) OpenBracket (
    cond (n == 4) CloseBracket (
    cond (n == 5) OpenParen (
    cond (n == 6) CloseParen (
    cond (n == 7) DoubleCaret (
    cond (n == 8) Anon (
    cond (n == 9) IriRef (
    cond (n == 10) PnameNs (
    cond (n == 11) PnameLn (
    cond (n == 12) BlankNodeLabel (
    cond (n == 13) LangTag (
    cond (n == 14) String (
    cond (n == 15) Integer (
    cond (n == 16) Decimal (
    cond (n == 17) Double (
    Word))))))))))))))))))

kind_at-code : (k : TokenKind) → kind_at (code k) ≡ k
unfolding kind_at
kind_at-code Dot = refl
kind_at-code Comma = refl
kind_at-code Semicolon = refl
kind_at-code OpenBracket = refl
kind_at-code CloseBracket = refl
kind_at-code OpenParen = refl
kind_at-code CloseParen = refl
kind_at-code DoubleCaret = refl
kind_at-code Anon = refl
kind_at-code IriRef = refl
kind_at-code PnameNs = refl
kind_at-code PnameLn = refl
kind_at-code BlankNodeLabel = refl
kind_at-code LangTag = refl
kind_at-code String = refl
kind_at-code Integer = refl
kind_at-code Decimal = refl
kind_at-code Double = refl
kind_at-code Word = refl

pub is_kind-true : (k j : TokenKind) → is_kind k j ≡ true → k ≡ j
is_kind-true k j e = sym (kind_at-code k) ∙ ap kind_at (eqb-true (code k) (code j) e) ∙ kind_at-code j

pub is_kind-same : (k j : TokenKind) → k ≡ j → is_kind k j ≡ true
is_kind-same k j e = eq-eqb (code k) (code j) (ap code e)

-- an object may begin with it
abbrev pub starts_object : TokenKind → Bool
starts_object IriRef = true
starts_object PnameNs = true
starts_object PnameLn = true
starts_object BlankNodeLabel = true
starts_object Anon = true
starts_object String = true
starts_object Integer = true
starts_object Decimal = true
starts_object Double = true
starts_object Word = true
starts_object OpenParen = true
starts_object OpenBracket = true
starts_object k = false

-- a node without brackets is it
abbrev pub starts_node : TokenKind → Bool
starts_node IriRef = true
starts_node PnameNs = true
starts_node PnameLn = true
starts_node BlankNodeLabel = true
starts_node Anon = true
starts_node k = false

-- a term without brackets may begin with it
abbrev pub starts_plain : TokenKind → Bool
starts_plain IriRef = true
starts_plain PnameNs = true
starts_plain PnameLn = true
starts_plain BlankNodeLabel = true
starts_plain Anon = true
starts_plain String = true
starts_plain Integer = true
starts_plain Decimal = true
starts_plain Double = true
starts_plain Word = true
starts_plain k = false

-- a subject but for a square bracket may begin with it
abbrev pub starts_subject : TokenKind → Bool
starts_subject IriRef = true
starts_subject PnameNs = true
starts_subject PnameLn = true
starts_subject BlankNodeLabel = true
starts_subject Anon = true
starts_subject OpenParen = true
starts_subject k = false

-- no tag and no datatype
abbrev pub ends_string : TokenKind → Bool
ends_string DoubleCaret = false
ends_string LangTag = false
ends_string k = true

-- it may stand behind the objects of a verb
abbrev pub ends_objects : TokenKind → Bool
ends_objects Semicolon = true
ends_objects Dot = true
ends_objects CloseBracket = true
ends_objects k = false

-- it may stand behind all verbs and objects of a subject
abbrev pub ends_properties : TokenKind → Bool
ends_properties Dot = true
ends_properties CloseBracket = true
ends_properties k = false

pub object-ends_string : (k : TokenKind) → starts_object k ≡ true → ends_string k ≡ true
object-ends_string Dot h = absurd cc
object-ends_string Comma h = absurd cc
object-ends_string Semicolon h = absurd cc
object-ends_string OpenBracket h = refl
object-ends_string CloseBracket h = absurd cc
object-ends_string OpenParen h = refl
object-ends_string CloseParen h = absurd cc
object-ends_string DoubleCaret h = absurd cc
object-ends_string Anon h = refl
object-ends_string IriRef h = refl
object-ends_string PnameNs h = refl
object-ends_string PnameLn h = refl
object-ends_string BlankNodeLabel h = refl
object-ends_string LangTag h = absurd cc
object-ends_string String h = refl
object-ends_string Integer h = refl
object-ends_string Decimal h = refl
object-ends_string Double h = refl
object-ends_string Word h = refl

pub object-open : (k : TokenKind) → starts_object k ≡ true → is_kind k CloseParen ≡ false
object-open Dot h = absurd cc
object-open Comma h = absurd cc
object-open Semicolon h = absurd cc
object-open OpenBracket h = refl
object-open CloseBracket h = absurd cc
object-open OpenParen h = refl
object-open CloseParen h = absurd cc
object-open DoubleCaret h = absurd cc
object-open Anon h = refl
object-open IriRef h = refl
object-open PnameNs h = refl
object-open PnameLn h = refl
object-open BlankNodeLabel h = refl
object-open LangTag h = absurd cc
object-open String h = refl
object-open Integer h = refl
object-open Decimal h = refl
object-open Double h = refl
object-open Word h = refl

pub objects-end_string : (k : TokenKind) → ends_objects k ≡ true → ends_string k ≡ true
objects-end_string Dot h = refl
objects-end_string Comma h = absurd cc
objects-end_string Semicolon h = refl
objects-end_string OpenBracket h = absurd cc
objects-end_string CloseBracket h = refl
objects-end_string OpenParen h = absurd cc
objects-end_string CloseParen h = absurd cc
objects-end_string DoubleCaret h = absurd cc
objects-end_string Anon h = absurd cc
objects-end_string IriRef h = absurd cc
objects-end_string PnameNs h = absurd cc
objects-end_string PnameLn h = absurd cc
objects-end_string BlankNodeLabel h = absurd cc
objects-end_string LangTag h = absurd cc
objects-end_string String h = absurd cc
objects-end_string Integer h = absurd cc
objects-end_string Decimal h = absurd cc
objects-end_string Double h = absurd cc
objects-end_string Word h = absurd cc

pub objects-no_comma : (k : TokenKind) → ends_objects k ≡ true → is_kind k Comma ≡ false
objects-no_comma Dot h = refl
objects-no_comma Comma h = absurd cc
objects-no_comma Semicolon h = refl
objects-no_comma OpenBracket h = absurd cc
objects-no_comma CloseBracket h = refl
objects-no_comma OpenParen h = absurd cc
objects-no_comma CloseParen h = absurd cc
objects-no_comma DoubleCaret h = absurd cc
objects-no_comma Anon h = absurd cc
objects-no_comma IriRef h = absurd cc
objects-no_comma PnameNs h = absurd cc
objects-no_comma PnameLn h = absurd cc
objects-no_comma BlankNodeLabel h = absurd cc
objects-no_comma LangTag h = absurd cc
objects-no_comma String h = absurd cc
objects-no_comma Integer h = absurd cc
objects-no_comma Decimal h = absurd cc
objects-no_comma Double h = absurd cc
objects-no_comma Word h = absurd cc

pub objects-no_verb : (k : TokenKind) → ends_objects k ≡ true → can_begin_verb k ≡ false
objects-no_verb Dot h = refl
objects-no_verb Comma h = absurd cc
objects-no_verb Semicolon h = refl
objects-no_verb OpenBracket h = absurd cc
objects-no_verb CloseBracket h = refl
objects-no_verb OpenParen h = absurd cc
objects-no_verb CloseParen h = absurd cc
objects-no_verb DoubleCaret h = absurd cc
objects-no_verb Anon h = absurd cc
objects-no_verb IriRef h = absurd cc
objects-no_verb PnameNs h = absurd cc
objects-no_verb PnameLn h = absurd cc
objects-no_verb BlankNodeLabel h = absurd cc
objects-no_verb LangTag h = absurd cc
objects-no_verb String h = absurd cc
objects-no_verb Integer h = absurd cc
objects-no_verb Decimal h = absurd cc
objects-no_verb Double h = absurd cc
objects-no_verb Word h = absurd cc

pub properties-end_objects : (k : TokenKind) → ends_properties k ≡ true → ends_objects k ≡ true
properties-end_objects Dot h = refl
properties-end_objects Comma h = absurd cc
properties-end_objects Semicolon h = absurd cc
properties-end_objects OpenBracket h = absurd cc
properties-end_objects CloseBracket h = refl
properties-end_objects OpenParen h = absurd cc
properties-end_objects CloseParen h = absurd cc
properties-end_objects DoubleCaret h = absurd cc
properties-end_objects Anon h = absurd cc
properties-end_objects IriRef h = absurd cc
properties-end_objects PnameNs h = absurd cc
properties-end_objects PnameLn h = absurd cc
properties-end_objects BlankNodeLabel h = absurd cc
properties-end_objects LangTag h = absurd cc
properties-end_objects String h = absurd cc
properties-end_objects Integer h = absurd cc
properties-end_objects Decimal h = absurd cc
properties-end_objects Double h = absurd cc
properties-end_objects Word h = absurd cc

pub properties-no_semicolon : (k : TokenKind) → ends_properties k ≡ true → is_kind k Semicolon ≡ false
properties-no_semicolon Dot h = refl
properties-no_semicolon Comma h = absurd cc
properties-no_semicolon Semicolon h = absurd cc
properties-no_semicolon OpenBracket h = absurd cc
properties-no_semicolon CloseBracket h = refl
properties-no_semicolon OpenParen h = absurd cc
properties-no_semicolon CloseParen h = absurd cc
properties-no_semicolon DoubleCaret h = absurd cc
properties-no_semicolon Anon h = absurd cc
properties-no_semicolon IriRef h = absurd cc
properties-no_semicolon PnameNs h = absurd cc
properties-no_semicolon PnameLn h = absurd cc
properties-no_semicolon BlankNodeLabel h = absurd cc
properties-no_semicolon LangTag h = absurd cc
properties-no_semicolon String h = absurd cc
properties-no_semicolon Integer h = absurd cc
properties-no_semicolon Decimal h = absurd cc
properties-no_semicolon Double h = absurd cc
properties-no_semicolon Word h = absurd cc

pub properties-ends_string : (k : TokenKind) → ends_properties k ≡ true → ends_string k ≡ true
properties-ends_string Dot h = refl
properties-ends_string Comma h = absurd cc
properties-ends_string Semicolon h = absurd cc
properties-ends_string OpenBracket h = absurd cc
properties-ends_string CloseBracket h = refl
properties-ends_string OpenParen h = absurd cc
properties-ends_string CloseParen h = absurd cc
properties-ends_string DoubleCaret h = absurd cc
properties-ends_string Anon h = absurd cc
properties-ends_string IriRef h = absurd cc
properties-ends_string PnameNs h = absurd cc
properties-ends_string PnameLn h = absurd cc
properties-ends_string BlankNodeLabel h = absurd cc
properties-ends_string LangTag h = absurd cc
properties-ends_string String h = absurd cc
properties-ends_string Integer h = absurd cc
properties-ends_string Decimal h = absurd cc
properties-ends_string Double h = absurd cc
properties-ends_string Word h = absurd cc

pub properties-no_verb : (k : TokenKind) → ends_properties k ≡ true → can_begin_verb k ≡ false
properties-no_verb Dot h = refl
properties-no_verb Comma h = absurd cc
properties-no_verb Semicolon h = absurd cc
properties-no_verb OpenBracket h = absurd cc
properties-no_verb CloseBracket h = refl
properties-no_verb OpenParen h = absurd cc
properties-no_verb CloseParen h = absurd cc
properties-no_verb DoubleCaret h = absurd cc
properties-no_verb Anon h = absurd cc
properties-no_verb IriRef h = absurd cc
properties-no_verb PnameNs h = absurd cc
properties-no_verb PnameLn h = absurd cc
properties-no_verb BlankNodeLabel h = absurd cc
properties-no_verb LangTag h = absurd cc
properties-no_verb String h = absurd cc
properties-no_verb Integer h = absurd cc
properties-no_verb Decimal h = absurd cc
properties-no_verb Double h = absurd cc
properties-no_verb Word h = absurd cc

pub verb-ends_string : (k : TokenKind) → can_begin_verb k ≡ true → ends_string k ≡ true
verb-ends_string Dot h = absurd cc
verb-ends_string Comma h = absurd cc
verb-ends_string Semicolon h = absurd cc
verb-ends_string OpenBracket h = absurd cc
verb-ends_string CloseBracket h = absurd cc
verb-ends_string OpenParen h = absurd cc
verb-ends_string CloseParen h = absurd cc
verb-ends_string DoubleCaret h = absurd cc
verb-ends_string Anon h = absurd cc
verb-ends_string IriRef h = refl
verb-ends_string PnameNs h = refl
verb-ends_string PnameLn h = refl
verb-ends_string BlankNodeLabel h = absurd cc
verb-ends_string LangTag h = absurd cc
verb-ends_string String h = absurd cc
verb-ends_string Integer h = absurd cc
verb-ends_string Decimal h = absurd cc
verb-ends_string Double h = absurd cc
verb-ends_string Word h = refl

pub node-starts_object : (k : TokenKind) → starts_node k ≡ true → starts_object k ≡ true
node-starts_object Dot h = absurd cc
node-starts_object Comma h = absurd cc
node-starts_object Semicolon h = absurd cc
node-starts_object OpenBracket h = absurd cc
node-starts_object CloseBracket h = absurd cc
node-starts_object OpenParen h = absurd cc
node-starts_object CloseParen h = absurd cc
node-starts_object DoubleCaret h = absurd cc
node-starts_object Anon h = refl
node-starts_object IriRef h = refl
node-starts_object PnameNs h = refl
node-starts_object PnameLn h = refl
node-starts_object BlankNodeLabel h = refl
node-starts_object LangTag h = absurd cc
node-starts_object String h = absurd cc
node-starts_object Integer h = absurd cc
node-starts_object Decimal h = absurd cc
node-starts_object Double h = absurd cc
node-starts_object Word h = absurd cc

pub node-starts_plain : (k : TokenKind) → starts_node k ≡ true → starts_plain k ≡ true
node-starts_plain Dot h = absurd cc
node-starts_plain Comma h = absurd cc
node-starts_plain Semicolon h = absurd cc
node-starts_plain OpenBracket h = absurd cc
node-starts_plain CloseBracket h = absurd cc
node-starts_plain OpenParen h = absurd cc
node-starts_plain CloseParen h = absurd cc
node-starts_plain DoubleCaret h = absurd cc
node-starts_plain Anon h = refl
node-starts_plain IriRef h = refl
node-starts_plain PnameNs h = refl
node-starts_plain PnameLn h = refl
node-starts_plain BlankNodeLabel h = refl
node-starts_plain LangTag h = absurd cc
node-starts_plain String h = absurd cc
node-starts_plain Integer h = absurd cc
node-starts_plain Decimal h = absurd cc
node-starts_plain Double h = absurd cc
node-starts_plain Word h = absurd cc

pub plain-starts_object : (k : TokenKind) → starts_plain k ≡ true → starts_object k ≡ true
plain-starts_object Dot h = absurd cc
plain-starts_object Comma h = absurd cc
plain-starts_object Semicolon h = absurd cc
plain-starts_object OpenBracket h = absurd cc
plain-starts_object CloseBracket h = absurd cc
plain-starts_object OpenParen h = absurd cc
plain-starts_object CloseParen h = absurd cc
plain-starts_object DoubleCaret h = absurd cc
plain-starts_object Anon h = refl
plain-starts_object IriRef h = refl
plain-starts_object PnameNs h = refl
plain-starts_object PnameLn h = refl
plain-starts_object BlankNodeLabel h = refl
plain-starts_object LangTag h = absurd cc
plain-starts_object String h = refl
plain-starts_object Integer h = refl
plain-starts_object Decimal h = refl
plain-starts_object Double h = refl
plain-starts_object Word h = refl

pub node-starts_subject : (k : TokenKind) → starts_node k ≡ true → starts_subject k ≡ true
node-starts_subject Dot h = absurd cc
node-starts_subject Comma h = absurd cc
node-starts_subject Semicolon h = absurd cc
node-starts_subject OpenBracket h = absurd cc
node-starts_subject CloseBracket h = absurd cc
node-starts_subject OpenParen h = absurd cc
node-starts_subject CloseParen h = absurd cc
node-starts_subject DoubleCaret h = absurd cc
node-starts_subject Anon h = refl
node-starts_subject IriRef h = refl
node-starts_subject PnameNs h = refl
node-starts_subject PnameLn h = refl
node-starts_subject BlankNodeLabel h = refl
node-starts_subject LangTag h = absurd cc
node-starts_subject String h = absurd cc
node-starts_subject Integer h = absurd cc
node-starts_subject Decimal h = absurd cc
node-starts_subject Double h = absurd cc
node-starts_subject Word h = absurd cc

pub iri-verb : (names : Names) (k : TokenKind) (text v : List ℕ) → KindNames names k text v → can_begin_verb k ≡ true
iri-verb names Dot text v h = absurd h
iri-verb names Comma text v h = absurd h
iri-verb names Semicolon text v h = absurd h
iri-verb names OpenBracket text v h = absurd h
iri-verb names CloseBracket text v h = absurd h
iri-verb names OpenParen text v h = absurd h
iri-verb names CloseParen text v h = absurd h
iri-verb names DoubleCaret text v h = absurd h
iri-verb names Anon text v h = absurd h
iri-verb names IriRef text v h = refl
iri-verb names PnameNs text v h = refl
iri-verb names PnameLn text v h = refl
iri-verb names BlankNodeLabel text v h = absurd h
iri-verb names LangTag text v h = absurd h
iri-verb names String text v h = absurd h
iri-verb names Integer text v h = absurd h
iri-verb names Decimal text v h = absurd h
iri-verb names Double text v h = absurd h
iri-verb names Word text v h = absurd h

pub iri-node : (names : Names) (k : TokenKind) (text v : List ℕ) → KindNames names k text v → starts_node k ≡ true
iri-node names Dot text v h = absurd h
iri-node names Comma text v h = absurd h
iri-node names Semicolon text v h = absurd h
iri-node names OpenBracket text v h = absurd h
iri-node names CloseBracket text v h = absurd h
iri-node names OpenParen text v h = absurd h
iri-node names CloseParen text v h = absurd h
iri-node names DoubleCaret text v h = absurd h
iri-node names Anon text v h = absurd h
iri-node names IriRef text v h = refl
iri-node names PnameNs text v h = refl
iri-node names PnameLn text v h = refl
iri-node names BlankNodeLabel text v h = absurd h
iri-node names LangTag text v h = absurd h
iri-node names String text v h = absurd h
iri-node names Integer text v h = absurd h
iri-node names Decimal text v h = absurd h
iri-node names Double text v h = absurd h
iri-node names Word text v h = absurd h

pub unquoted-plain : (k : TokenKind) (bytes : List ℕ) (v : Term) → unquoted_literal k bytes ≡ Some v → starts_plain k ≡ true
unquoted-plain Dot bytes v h = absurd cc
unquoted-plain Comma bytes v h = absurd cc
unquoted-plain Semicolon bytes v h = absurd cc
unquoted-plain OpenBracket bytes v h = absurd cc
unquoted-plain CloseBracket bytes v h = absurd cc
unquoted-plain OpenParen bytes v h = absurd cc
unquoted-plain CloseParen bytes v h = absurd cc
unquoted-plain DoubleCaret bytes v h = absurd cc
unquoted-plain Anon bytes v h = absurd cc
unquoted-plain IriRef bytes v h = absurd cc
unquoted-plain PnameNs bytes v h = absurd cc
unquoted-plain PnameLn bytes v h = absurd cc
unquoted-plain BlankNodeLabel bytes v h = absurd cc
unquoted-plain LangTag bytes v h = absurd cc
unquoted-plain String bytes v h = absurd cc
unquoted-plain Integer bytes v h = refl
unquoted-plain Decimal bytes v h = refl
unquoted-plain Double bytes v h = refl
unquoted-plain Word bytes v h = refl

-- ---- what a list of tokens begins with

pub record Begins (p : TokenKind → Bool) (ts : List PlacedToken) : Type 0 where
  pub token : PlacedToken
  pub behind : List PlacedToken
  pub parts : ts ≡ token ∷ behind
  pub passes : p token.kind ≡ true

pub begins-append : (p : TokenKind → Bool) (a rest : List PlacedToken) → Begins p a → Begins p (a ++ rest)
begins-append p a rest h = record { token = h.token; behind = h.behind ++ rest; parts = ap (λ (t : List PlacedToken). t ++ rest) h.parts; passes = h.passes }

pub begins-nonempty : (p : TokenKind → Bool) (a : List PlacedToken) → Begins p a → 0 < length a
begins-nonempty p a h = omega (arith, ap length h.parts)

pub begins-more : (p q : TokenKind → Bool) → ((k : TokenKind) → p k ≡ true → q k ≡ true) → (a : List PlacedToken) → Begins p a → Begins q a
begins-more p q f a h = record { token = h.token; behind = h.behind; parts = h.parts; passes = f h.token.kind h.passes }

pub strip-none : (k : TokenKind) (p : TokenKind → Bool) → ((j : TokenKind) → p j ≡ true → is_kind j k ≡ false) → (a : List PlacedToken) → Begins p a → strip_kind k a ≡ None
strip-none k p f a h = let e = f h.token.kind h.passes in rw (h.parts, e) refl

strip_by : (k : TokenKind) (t : PlacedToken) (ts rest : List PlacedToken) (b : Bool) → is_kind t.kind k ≡ b → cond b (Some ts) None ≡ Some rest → (u : PlacedToken) × (t ∷ ts ≡ u ∷ rest) × (u.kind ≡ k)
strip_by k t ts rest true e h = (t, ap (λ (x : List PlacedToken). t ∷ x) (some_is ts rest h), is_kind-true t.kind k e)
strip_by k t ts rest false e h = absurd cc

pub strip-some : (k : TokenKind) (ts rest : List PlacedToken) → strip_kind k ts ≡ Some rest → (t : PlacedToken) × (ts ≡ t ∷ rest) × (t.kind ≡ k)
strip-some k [] rest e = absurd cc
strip-some k (t ∷ ts) rest e = strip_by k t ts rest (is_kind t.kind k) refl e

pub strip-full : (k : TokenKind) (t : PlacedToken) (rest : List PlacedToken) → t.kind ≡ k → strip_kind k (t ∷ rest) ≡ Some rest
strip-full k t rest e = let b = is_kind-same t.kind k e in rw b refl
