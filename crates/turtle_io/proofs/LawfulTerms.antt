-- What a statement says has lawful terms, and its blank nodes have the scope of the role: where the tokens are tokens of
-- Turtle and the names before it are lawful.
use Rattle.std.proofs.Common.{◌≡◌, ◌≢◌, ℕ, zero, suc, ◌<◌, ◌%◌, ◌/◌, Bool, true, false, cond, List, [], ◌∷◌, ◌++◌, length, Option, Some, None, refl, sym, ap, subst, ◌∙◌, arith, inl, inr}
use Rattle.std.specs.Prelude.{◌==◌, ◌&&◌, ◌||◌, codes, decimal, encode_utf8_all, nat_lt, option_map, All, IfSome, IsSome, ◌↔◌}
use Rattle.std.specs.Bool.{if◌then◌else◌}
use Rattle.std.specs.List.{list_all}
use Rattle.std.specs.Fmt.{digits, digits_onto, digit_glyph}
use Rattle.std.specs.BTreeMap.{is_at}
use Rattle.std.specs.Str.{IsUtf8, all_scalars}
use Rattle.std.proofs.lemmas.Bool.{eq-eqb, false≢true}
use Rattle.std.proofs.lemmas.List.Elements.{All-push}
use Rattle.std.proofs.lemmas.List.Folds.{list_all-append}
use Rattle.std.proofs.lemmas.Map.Views.{All-values-insert_entry, IfSome-lookup_from_All}
use Rattle.std.proofs.lemmas.Str.{encodes-IsAscii}
use Rattle.grammar_forms.specs.Forms.{Form, many, optional, Made, Where, ◌⨾◌, ◌▹◌, ◌◃◌, ◌∣◌}
use Rattle.grammar_forms.specs.Names.{IsNameEnd}
use Rattle.grammar_forms.proofs.Exactness.{some_is}
use Rattle.grammar_forms.proofs.Loops.{and_both}
use Rattle.regular_forms.specs.Regular.{Has, empty, maybe}
use Rattle.rdf_terms.specs.declared.term.Scope.{Scope}
use Rattle.rdf_terms.specs.declared.term.Term.{Term}
use Rattle.rdf_terms.specs.declared.term.Term.TheVariants.{Iri, Literal}
use Rattle.rdf_terms.specs.Statement.{Statement}
use Rattle.rdf_terms.specs.Term.{text_cmp}
use Rattle.rdf_terms.specs.Vocab.Rdf as rdf
use Rattle.rdf_terms.specs.Vocab.Xsd as xsd
use Rattle.rdf_terms.proofs.Bools.{both_true}
use Rattle.rdf_grammar.specs.declared.dialect.Dialect.TheVariants.{NTriples, Turtle}
use Rattle.rdf_grammar.specs.Lawful.{IsIri, IsLabel, IsTag, IsLawful, IsLawfulTriple}
use Rattle.rdf_grammar.specs.Productions.{is_base, is_iri_char, is_name_start, is_name_char, is_label_start}
use Rattle.rdf_grammar.specs.Reading.{has_scheme, scheme_at}
use Rattle.rdf_grammar.proofs.Lawful.{blank_node_label_lawful, langtag_lawful}
use Rattle.rdf_grammar.proofs.Productions.{scheme_decides}
use Rattle.ntriples_io.specs.RoundTrip.{IsInScope, IsTripleInScope}
use Rattle.turtle_tokens.specs.declared.kinds.TokenKind.{TokenKind}
use Rattle.turtle_tokens.specs.declared.kinds.TokenKind.TheVariants.{Dot, Comma, Semicolon, OpenBracket, CloseBracket, OpenParen, CloseParen, DoubleCaret, Anon, IriRef, PnameNs, PnameLn, Integer, Decimal, Double, Word}
use Rattle.turtle_tokens.specs.Tokens.{form, pn_local}
use Rattle.turtle_tokens.specs.Places.{PlacedToken}
use Rattle.turtle_terms.specs.declared.keywords.Keyword.TheVariants.{A, Prefix, Base, SparqlPrefix, SparqlBase}
use Rattle.turtle_terms.specs.Literals.{datatype_of, is_boolean, IsDatatype}
use Rattle.turtle_terms.specs.Strings.{marks_of}
use Rattle.turtle_terms.proofs.Classes.{below_is}
use Rattle.turtle_terms.proofs.Datatypes.{integer_is, decimal_is, double_is, boolean_is}
use Rattle.turtle_terms.proofs.LawfulNames.{expanded_lawful, scalars_right}
use Rattle.turtle_terms.proofs.NameParts.{namespace_cut, local_cut, cut_forms}
use Rattle.turtle_terms.proofs.QuotedParts.{is_ascii_text, ascii_list, between_lawful}
use Rattle.turtle_statements.specs.declared.role.Role.{Role}
use Rattle.turtle_statements.specs.declared.role.Role.TheVariants.{Data, Offered, Shapes}
use Rattle.turtle_statements.specs.declared.output.Output.{Output}
use Rattle.turtle_statements.specs.Names.{Names, namespace_of, with_prefix, with_base, AreLawfulNames}
use Rattle.turtle_statements.specs.Terms.{Expands, KindNames, NamesIri, IsReference, IsPrefix, HasLabel, HasTag, HasString, IsUnquoted}
use Rattle.turtle_statements.specs.Meaning.{scope_of, label_start, say, new_node, one_more, Says, Tells, says, says_label, says_new, cells, says_collection, tells_each, tells_objects, tells_optional, tells_more, tells_properties, says_bracketed, tells_triples, tells_bracketed, directs, adds}
use Rattle.turtle_statements.specs.Grammar.{Single, kind, keyword, iri, of_tag, of_datatype, IsNotLangString, string_kind, kind_of, literal_of, literal, says_iri, node, plain_term, type_of, verb, objects, properties, collection, bracketed, object, most_open, any_object, subject, triples, prefix_part, base_part, directive, statement}
use Rattle.turtle_io.proofs.Utf8References.{refers_lawful}

-- ---- tokens

pub record IsToken (t : PlacedToken) : Type 0 where
  pub are_scalars : all_scalars t.text ≡ true
  pub has : Has (form t.kind) t.text

abbrev pub AreEach : List PlacedToken → Type 0
AreEach [] = Unit {0}
AreEach (t ∷ ts) = IsToken t × AreEach ts

each_split : (a b : List PlacedToken) → AreEach (a ++ b) → AreEach a × AreEach b
each_split [] b e = (tt, e)
each_split (t ∷ a) b e = let k = each_split a b e.1 in ((e.0, k.0), k.1)

each_parts : (ts a b : List PlacedToken) → ts ≡ a ++ b → AreEach ts → AreEach a × AreEach b
each_parts ts a b parts e = each_split a b (subst (λ (x : List PlacedToken). AreEach x) parts e)

-- ---- each meaning of a form has a property

abbrev Yields : {V : Type 0} → Form PlacedToken V → (V → Type 0) → Type 0
Yields {V} P F = (ts : List PlacedToken) (v : V) → AreEach ts → P ts v → F v

abbrev AllOf : {V : Type 0} → (V → Type 0) → List V → Type 0
AllOf F [] = Unit {0}
AllOf F (v ∷ vs) = F v × AllOf F vs

single_yields : {V : Type 0} (M : PlacedToken → V → Type 0) (F : V → Type 0) → ((t : PlacedToken) (v : V) → IsToken t → M t v → F v) → Yields (Single M) F
single_yields M F k ts v e h = k h.token v (each_parts ts (h.token ∷ []) [] h.alone e).0.0 h.means

then_yields : {V W : Type 0} (P : Form PlacedToken V) (Q : Form PlacedToken W) (F : V → Type 0) (G : W → Type 0) → Yields P F → Yields Q G → Yields (P ⨾ Q) (λ v. F v.0 × G v.1)
then_yields P Q F G p q ts v e h =
    let k = each_parts ts h.front h.back h.parts e in
    (p h.front v.0 k.0 h.first, q h.back v.1 k.1 h.second)

made_yields : {V W : Type 0} (f : V → W) (P : Form PlacedToken V) (F : V → Type 0) (G : W → Type 0) → Yields P F → ((v : V) → F v → G (f v)) → Yields (Made f P) G
made_yields {V} {W} f P F G p k ts v e h = subst (λ (x : W). G x) (sym h.means) (k h.own (p ts h.own e h.spelled))

behind_yields : {V W : Type 0} (P : Form PlacedToken V) (Q : Form PlacedToken W) (G : W → Type 0) → Yields Q G → Yields (P ▹ Q) G
behind_yields {V} {W} P Q G q ts v e h =
    let k = each_parts ts h.spelled.front h.spelled.back h.spelled.parts e in
    subst (λ (x : W). G x) (sym h.means) (q h.spelled.back h.own.1 k.1 h.spelled.second)

before_yields : {V W : Type 0} (P : Form PlacedToken V) (Q : Form PlacedToken W) (F : V → Type 0) → Yields P F → Yields (P ◃ Q) F
before_yields {V} {W} P Q F p ts v e h =
    let k = each_parts ts h.spelled.front h.spelled.back h.spelled.parts e in
    subst (λ (x : V). F x) (sym h.means) (p h.spelled.front h.own.0 k.0 h.spelled.first)

either_yields : {V : Type 0} (P Q : Form PlacedToken V) (F : V → Type 0) → Yields P F → Yields Q F → Yields (P ∣ Q) F
either_yields P Q F p q ts v e h = elim h [ inl a ↦ p ts v e a | inr b ↦ q ts v e b ]

many_yields : {V : Type 0} (P : Form PlacedToken V) (F : V → Type 0) → Yields P F → Yields (many P) (AllOf F)
many_yields P F p ts [] e h = tt
many_yields P F p ts (v ∷ vs) e h =
    let k = each_parts ts h.front h.back h.parts e in
    (p h.front v k.0 h.first, many_yields P F p h.back vs k.1 h.second)

optional_yields : {V : Type 0} (P : Form PlacedToken V) (F : V → Type 0) → Yields P F → Yields (optional P) (λ o. IfSome o F)
optional_yields P F p ts None e h = tt
optional_yields P F p ts (Some v) e h = p ts v e h

-- ---- what is lawful

pub record IsFine (scope : Scope) (t : Term) : Type 0 where
  pub lawful : IsLawful t
  pub in_scope : IsInScope scope t

pub record IsFineTriple (scope : Scope) (t : Statement) : Type 0 where
  pub lawful : IsLawfulTriple t
  pub in_scope : IsTripleInScope scope t

abbrev pub AreFine : Scope → Output → Type 0
AreFine scope o = All (IsFineTriple scope) o.triples

abbrev SaysFine : Scope → Says → Type 0
SaysFine scope d = (o : Output) → AreFine scope o → IsFine scope (d o).0 × AreFine scope (d o).1

abbrev TellsFine : Scope → Tells → Type 0
TellsFine scope t = (s : Term) (o : Output) → IsFine scope s → AreFine scope o → AreFine scope (t s o)

abbrev pub KeepsFine : Scope → (Output → Output) → Type 0
KeepsFine scope f = (o : Output) → AreFine scope o → AreFine scope (f o)

iri_fine : (scope : Scope) (i : List ℕ) → IsIri i → IsFine scope (Iri i)
iri_fine scope i h = record { lawful = h; in_scope = tt }

say_fine : (scope : Scope) (s p x : Term) (o : Output) → IsFine scope s → IsLawful p → IsFine scope x → AreFine scope o → AreFine scope (say s p x o)
say_fine scope s p x o a b c h =
    All-push (IsFineTriple scope) o.triples (record { subject = s; predicate = p; object = x }) h (record {
      lawful = record { subject = a.lawful; predicate = b; object = c.lawful };
      in_scope = (a.in_scope, c.in_scope);
    })

-- ---- the vocabulary

iri_by : (bytes : List ℕ) → is_ascii_text bytes ≡ true → list_all is_iri_char bytes ≡ true → has_scheme bytes ≡ true → IsIri bytes
iri_by bytes s e h = record { characters = bytes; spell = encodes-IsAscii bytes (ascii_list bytes s); each = e; scheme = (scheme_decides bytes).0 h }

first_is : IsLawful rdf.first
unfolding is_iri_char scheme_at
first_is = iri_by (rdf.text_of (codes "first")) refl refl refl

rest_is : IsLawful rdf.rest
unfolding is_iri_char scheme_at
rest_is = iri_by (rdf.text_of (codes "rest")) refl refl refl

nil_is : IsIri (rdf.text_of (codes "nil"))
unfolding is_iri_char scheme_at
nil_is = iri_by (rdf.text_of (codes "nil")) refl refl refl

type_is : IsLawful rdf.type_
unfolding is_iri_char scheme_at
type_is = iri_by (rdf.text_of (codes "type")) refl refl refl

lang_string_is : IsIri rdf.lang_string
unfolding is_iri_char scheme_at
lang_string_is = iri_by rdf.lang_string refl refl refl

string_is : IsIri xsd.string
unfolding is_iri_char scheme_at
string_is = iri_by xsd.string refl refl refl

string_untagged : xsd.string ≢ rdf.lang_string
string_untagged e = let n : (length xsd.string == length rdf.lang_string) ≡ false = refl in false≢true (sym n ∙ eq-eqb (length xsd.string) (length rdf.lang_string) (ap length e))

-- ---- labels of anonymous nodes

abbrev is_plain : ℕ → Bool
is_plain c = is_name_char NTriples c && nat_lt c 128

plain_end : (cs : List ℕ) → list_all is_plain cs ≡ true → IsNameEnd (is_name_char NTriples) cs
plain_end [] h = tt
plain_end (c ∷ []) h = (and_both (is_name_char NTriples c) (nat_lt c 128) (and_both (is_plain c) true h).0).0
plain_end (c ∷ d ∷ cs) h =
    let k = and_both (is_plain c) (list_all is_plain (d ∷ cs)) h in
    (ap (λ (b : Bool). b || (c == 46)) (and_both (is_name_char NTriples c) (nat_lt c 128) k.0).0, plain_end (d ∷ cs) k.1)

plain_ascii : (cs : List ℕ) → list_all is_plain cs ≡ true → is_ascii_text cs ≡ true
plain_ascii [] h = refl
plain_ascii (c ∷ cs) h =
    let k = and_both (is_plain c) (list_all is_plain cs) h in
    both_true (nat_lt c 128) (is_ascii_text cs) (and_both (is_name_char NTriples c) (nat_lt c 128) k.0).1 (plain_ascii cs k.1)

glyph_plain : (n : ℕ) → n < 10 → is_plain (digit_glyph false n) ≡ true
unfolding is_name_char is_name_start is_base
glyph_plain n l = below_is 10 (λ d. is_plain (digit_glyph false d)) refl n l

plain_if : (b : Bool) (x y : List ℕ) → list_all is_plain x ≡ true → list_all is_plain y ≡ true → list_all is_plain (if b then x else y) ≡ true
plain_if true x y h k = h
plain_if false x y h k = k

digits_plain : (k n : ℕ) (acc : List ℕ) → list_all is_plain acc ≡ true → list_all is_plain (digits_onto k 10 false n acc) ≡ true
digits_plain zero n acc h = h
digits_plain (suc k) n acc h =
    let low : n % 10 < 10 = omega arith in
    let more = both_true (is_plain (digit_glyph false (n % 10))) (list_all is_plain acc) (glyph_plain (n % 10) low) h in
    plain_if (n / 10 == 0) (digit_glyph false (n % 10) ∷ acc) (digits_onto k 10 false (n / 10) (digit_glyph false (n % 10) ∷ acc)) more
    (digits_plain k (n / 10) (digit_glyph false (n % 10) ∷ acc) more)

decimal_plain : (n : ℕ) → list_all is_plain (decimal n) ≡ true
unfolding digits
decimal_plain n = digits_plain 64 n [] refl

-- a letter and then what may stand in a name
label_by : (start : ℕ) (cs : List ℕ) → is_label_start NTriples start ≡ true → list_all is_plain (start ∷ cs) ≡ true → IsLabel (start ∷ cs)
label_by start cs s h = record {
  characters = start ∷ cs;
  spell = encodes-IsAscii (start ∷ cs) (ascii_list (start ∷ cs) (plain_ascii (start ∷ cs) h));
  is_label = record {
    own = (start, tt);
    spelled = record {
      front = start ∷ [];
      back = cs;
      parts = refl;
      first = record { spelled = refl; passes = s };
      second = plain_end cs (and_both (is_plain start) (list_all is_plain cs) h).1;
    };
    means = refl;
  };
}

start_plain : (role : Role) → list_all is_plain (label_start role) ≡ true
unfolding is_name_char is_name_start is_base
start_plain Data = refl
start_plain Offered = refl
start_plain Shapes = refl

x_starts : is_label_start NTriples 120 ≡ true
unfolding is_label_start is_name_start is_base
x_starts = refl

anonymous_plain : (role : Role) (n : ℕ) → list_all is_plain (label_start role ++ decimal n) ≡ true
anonymous_plain role n =
    list_all-append is_plain (label_start role) (decimal n) ∙ both_true (list_all is_plain (label_start role)) (list_all is_plain (decimal n)) (start_plain role) (decimal_plain n)

anonymous_label : (role : Role) (n : ℕ) → IsLabel (label_start role ++ decimal n)
anonymous_label Data n = label_by 120 (codes "-anon-d-" ++ decimal n) x_starts (anonymous_plain Data n)
anonymous_label Offered n = label_by 120 (codes "-anon-o-" ++ decimal n) x_starts (anonymous_plain Offered n)
anonymous_label Shapes n = label_by 120 (codes "-anon-s-" ++ decimal n) x_starts (anonymous_plain Shapes n)

new_fine : (role : Role) (o : Output) → IsFine (scope_of role) (new_node role o)
new_fine role o = record { lawful = anonymous_label role o.nodes; in_scope = refl }

-- ---- what the parts say

cells_fine : (role : Role) (cell : Term) (d : Says) (ds : List Says) (o : Output) → IsFine (scope_of role) cell → SaysFine (scope_of role) d → AllOf (SaysFine (scope_of role)) ds → AreFine (scope_of role) o → AreFine (scope_of role) (cells role cell d ds o)
cells_fine role cell d [] o c a b h =
    let scope = scope_of role in
    let k = a o h in
    let said = say_fine scope cell rdf.first (d o).0 (d o).1 c first_is k.0 k.1 in
    say_fine scope cell rdf.rest rdf.nil (say cell rdf.first (d o).0 (d o).1) c rest_is (iri_fine scope (rdf.text_of (codes "nil")) nil_is) said
cells_fine role cell d (e ∷ ds) o c a b h =
    let scope = scope_of role in
    let k = a o h in
    let out : Output = say cell rdf.first (d o).0 (d o).1 in
    let said : AreFine scope out = say_fine scope cell rdf.first (d o).0 (d o).1 c first_is k.0 k.1 in
    cells_fine role (new_node role out) e ds (say cell rdf.rest (new_node role out) (one_more out)) (new_fine role out) b.0 b.1
    (say_fine scope cell rdf.rest (new_node role out) (one_more out) c rest_is (new_fine role out) said)

collection_fine : (role : Role) (ds : List Says) → AllOf (SaysFine (scope_of role)) ds → SaysFine (scope_of role) (says_collection role ds)
collection_fine role [] a o h = (iri_fine (scope_of role) (rdf.text_of (codes "nil")) nil_is, h)
collection_fine role (d ∷ ds) a o h = (new_fine role o, cells_fine role (new_node role o) d ds (one_more o) (new_fine role o) a.0 a.1 h)

each_fine : (scope : Scope) (p : Term) (ds : List Says) → IsLawful p → AllOf (SaysFine scope) ds → TellsFine scope (tells_each p ds)
each_fine scope p [] l a s o f h = h
each_fine scope p (d ∷ ds) l a s o f h =
    let k = a.0 o h in
    each_fine scope p ds l a.1 s (say s p (d o).0 (d o).1) f (say_fine scope s p (d o).0 (d o).1 f l k.0 k.1)

optional_fine : (scope : Scope) (t : Option Tells) → IfSome t (TellsFine scope) → TellsFine scope (tells_optional t)
optional_fine scope None a s o f h = h
optional_fine scope (Some t) a s o f h = a s o f h

more_fine : (scope : Scope) (ts : List (Option Tells)) → AllOf (λ t. IfSome t (TellsFine scope)) ts → TellsFine scope (tells_more ts)
more_fine scope [] a s o f h = h
more_fine scope (t ∷ ts) a s o f h = more_fine scope ts a.1 s (tells_optional t s o) f (optional_fine scope t a.0 s o f h)

-- ---- IRIs

namespace_is : (names : Names) (prefix namespace : List ℕ) → AreLawfulNames names → namespace_of names prefix ≡ Some namespace → IsIri namespace
namespace_is names prefix namespace l e =
    subst (λ (o : Option (List ℕ)). IfSome o IsIri) e (IfSome-lookup_from_All IsIri (is_at (text_cmp prefix)) names.namespaces l.namespaces)

expands_is : (names : Names) (text v : List ℕ) → AreLawfulNames names → all_scalars text ≡ true → (x : Expands names text v) → Has (maybe pn_local) x.local → IsIri v
expands_is names text v l s x h =
    let behind : all_scalars (58 ∷ x.local) ≡ true = scalars_right x.prefix (58 ∷ x.local) (subst (λ (t : List ℕ). all_scalars t ≡ true) x.parts.parts s) in
    expanded_lawful x.namespace x.local v (scalars_right (58 ∷ []) x.local behind) x.stands (namespace_is names (encode_utf8_all x.prefix) x.namespace l x.declared) h

names_is : (names : Names) (k : TokenKind) (text v : List ℕ) → AreLawfulNames names → all_scalars text ≡ true → Has (form k) text → KindNames names k text v → IsIri v
names_is names IriRef text v l s f h = refers_lawful names.base text v l.base h
names_is names PnameNs text v l s f h =
    let k = cut_forms empty text h.prefix h.local (namespace_cut text f) h.parts in
    expands_is names text v l s h (inr k.local_form)
names_is names PnameLn text v l s f h =
    let k = cut_forms pn_local text h.prefix h.local (local_cut text f) h.parts in
    expands_is names text v l s h (inl k.local_form)
names_is names k text v l s f h = absurd h

iri_yields : (names : Names) → AreLawfulNames names → Yields (iri names) IsIri
iri_yields names l = single_yields (NamesIri names) IsIri (λ t v k m. names_is names t.kind t.text v l k.are_scalars k.has m)

reference_yields : (names : Names) → AreLawfulNames names → Yields (Single (IsReference names)) IsIri
reference_yields names l = single_yields (IsReference names) IsIri (λ t v k m. refers_lawful names.base t.text v l.base m.refers)

-- ---- literals

record IsKind (k : List ℕ × Option (List ℕ)) : Type 0 where
  iri : IsIri k.0
  tagged : (k.0 ≡ rdf.lang_string) ↔ IsSome k.1
  lower : IfSome k.1 IsTag

untagged_kind : (d : List ℕ) → IsIri d → d ≢ rdf.lang_string → IsKind (of_datatype d)
untagged_kind d h n = record { iri = h; tagged = (λ e. absurd (n e), λ s. absurd cc); lower = tt }

tagged_kind : (tag : List ℕ) → IsTag tag → IsKind (of_tag tag)
tagged_kind tag h = record { iri = lang_string_is; tagged = (λ e. refl, λ s. refl); lower = h }

some_kind : (o : Option (List ℕ × Option (List ℕ))) → IfSome o IsKind → IsKind (kind_of o)
some_kind None h = untagged_kind xsd.string string_is string_untagged
some_kind (Some k) h = h

literal_fine : (scope : Scope) (lexical : List ℕ) (k : List ℕ × Option (List ℕ)) → IsUtf8 lexical → IsKind k → IsFine scope (Literal lexical k.0 k.1)
literal_fine scope lexical k u h = record { lawful = record { text = u; iri = h.iri; tagged = h.tagged; lower = h.lower }; in_scope = tt }

datatype_yields : (names : Names) → AreLawfulNames names → Yields (Where IsNotLangString (iri names)) IsDatatype
datatype_yields names l ts v e h = record { iri = iri_yields names l ts v e h.spelled; untagged = h.has }

kind_yields : (names : Names) → AreLawfulNames names → Yields (string_kind names) IsKind
kind_yields names l =
    either_yields (Made of_tag (Single HasTag)) (Made of_datatype (kind DoubleCaret ▹ Where IsNotLangString (iri names))) IsKind
    (made_yields of_tag (Single HasTag) IsTag IsKind (single_yields HasTag IsTag (λ t v k m. langtag_lawful t.text v m.has)) tagged_kind)
    (made_yields of_datatype (kind DoubleCaret ▹ Where IsNotLangString (iri names)) IsDatatype IsKind
    (behind_yields (kind DoubleCaret) (Where IsNotLangString (iri names)) IsDatatype (datatype_yields names l)) (λ d h. untagged_kind d h.iri h.untagged))

boolean_by : (b : Bool) → IfSome (cond b (Some xsd.boolean) None) IsDatatype
boolean_by true = boolean_is
boolean_by false = tt

unquoted_datatype : (k : TokenKind) (bytes : List ℕ) → IfSome (datatype_of k bytes) IsDatatype
unquoted_datatype Integer bytes = integer_is
unquoted_datatype Decimal bytes = decimal_is
unquoted_datatype Double bytes = double_is
unquoted_datatype Word bytes = boolean_by (is_boolean bytes)
unquoted_datatype k bytes = tt

no_term : (v : Term) → None ≡ Some v → ⊥
no_term v e = absurd cc

unquoted_by : (scope : Scope) (bytes : List ℕ) (d : Option (List ℕ)) (v : Term) → IsUtf8 bytes → IfSome d IsDatatype → option_map (λ x. Literal bytes x None) d ≡ Some v → IsFine scope v
unquoted_by scope bytes None v u h e = absurd (no_term v e)
unquoted_by scope bytes (Some d) v u h e = subst (IsFine scope) (some_is (Literal bytes d None) v e) (literal_fine scope bytes (d, None) u (untagged_kind d h.iri h.untagged))

unquoted_yields : (scope : Scope) → Yields (Single IsUnquoted) (IsFine scope)
unquoted_yields scope =
    single_yields IsUnquoted (IsFine scope) (λ t v k m.
    unquoted_by scope (encode_utf8_all t.text) (datatype_of t.kind (encode_utf8_all t.text)) v (t.text, (k.are_scalars, refl)) (unquoted_datatype t.kind (encode_utf8_all t.text)) m)

string_yields : Yields (Single HasString) (λ b. IsUtf8 b)
string_yields = single_yields HasString (λ b. IsUtf8 b) (λ t v k m. between_lawful (marks_of (encode_utf8_all t.text)) t.text v m.has)

literal_yields : (names : Names) → AreLawfulNames names → Yields (literal names) (IsFine (scope_of names.role))
literal_yields names l =
    let scope = scope_of names.role in
    either_yields (Made literal_of (Single HasString ⨾ optional (string_kind names))) (Single IsUnquoted) (IsFine scope)
    (made_yields literal_of (Single HasString ⨾ optional (string_kind names)) (λ v. IsUtf8 v.0 × IfSome v.1 IsKind) (IsFine scope)
    (then_yields (Single HasString) (optional (string_kind names)) (λ b. IsUtf8 b) (λ o. IfSome o IsKind) string_yields (optional_yields (string_kind names) IsKind (kind_yields names l)))
    (λ v h. literal_fine scope v.0 (kind_of v.1) h.0 (some_kind v.1 h.1)))
    (unquoted_yields scope)

-- ---- terms

label_fine : (role : Role) (v : List ℕ) → IsLabel v → SaysFine (scope_of role) (says_label role v)
label_fine role v h o f = (record { lawful = h; in_scope = refl }, f)

node_yields : (names : Names) → AreLawfulNames names → Yields (node names) (SaysFine (scope_of names.role))
node_yields names l =
    let scope = scope_of names.role in
    either_yields (Made says_iri (iri names)) (Made (says_label names.role) (Single HasLabel) ∣ Made (says_new names.role) (kind Anon)) (SaysFine scope)
    (made_yields says_iri (iri names) IsIri (SaysFine scope) (iri_yields names l) (λ i h o f. (iri_fine scope i h, f)))
    (either_yields (Made (says_label names.role) (Single HasLabel)) (Made (says_new names.role) (kind Anon)) (SaysFine scope)
    (made_yields (says_label names.role) (Single HasLabel) IsLabel (SaysFine scope) (single_yields HasLabel IsLabel (λ t v k m. blank_node_label_lawful Turtle t.text v m.has)) (λ v h. label_fine names.role v h))
    (λ ts v e h. subst (SaysFine scope) (sym h.means) (λ o f. (new_fine names.role o, f))))

plain_yields : (names : Names) → AreLawfulNames names → Yields (plain_term names) (SaysFine (scope_of names.role))
plain_yields names l =
    let scope = scope_of names.role in
    either_yields (node names) (Made says (literal names)) (SaysFine scope) (node_yields names l)
    (made_yields says (literal names) (IsFine scope) (SaysFine scope) (literal_yields names l) (λ t h o f. (h, f)))

verb_yields : (names : Names) → AreLawfulNames names → Yields (verb names) IsLawful
verb_yields names l =
    either_yields (Made Iri (iri names)) (Made type_of (keyword A)) IsLawful
    (made_yields Iri (iri names) IsIri IsLawful (iri_yields names l) (λ i h. h))
    (λ ts v e h. subst IsLawful (sym h.means) type_is)

objects_yields : (names : Names) (O : Form PlacedToken Says) → AreLawfulNames names → Yields O (SaysFine (scope_of names.role)) → Yields (objects names O) (TellsFine (scope_of names.role))
objects_yields names O l y =
    let scope = scope_of names.role in
    made_yields tells_objects (verb names ⨾ O ⨾ many (kind Comma ▹ O)) (λ v. IsLawful v.0 × (SaysFine scope v.1.0 × AllOf (SaysFine scope) v.1.1)) (TellsFine scope)
    (then_yields (verb names) (O ⨾ many (kind Comma ▹ O)) IsLawful (λ v. SaysFine scope v.0 × AllOf (SaysFine scope) v.1) (verb_yields names l)
    (then_yields O (many (kind Comma ▹ O)) (SaysFine scope) (AllOf (SaysFine scope)) y (many_yields (kind Comma ▹ O) (SaysFine scope) (behind_yields (kind Comma) O (SaysFine scope) y))))
    (λ v h. each_fine scope v.0 (v.1.0 ∷ v.1.1) h.0 h.1)

properties_yields : (names : Names) (O : Form PlacedToken Says) → AreLawfulNames names → Yields O (SaysFine (scope_of names.role)) → Yields (properties names O) (TellsFine (scope_of names.role))
properties_yields names O l y =
    let scope = scope_of names.role in
    let one = objects_yields names O l y in
    made_yields tells_properties (objects names O ⨾ many (kind Semicolon ▹ optional (objects names O))) (λ v. TellsFine scope v.0 × AllOf (λ t. IfSome t (TellsFine scope)) v.1) (TellsFine scope)
    (then_yields (objects names O) (many (kind Semicolon ▹ optional (objects names O))) (TellsFine scope) (AllOf (λ t. IfSome t (TellsFine scope))) one
    (many_yields (kind Semicolon ▹ optional (objects names O)) (λ t. IfSome t (TellsFine scope))
    (behind_yields (kind Semicolon) (optional (objects names O)) (λ t. IfSome t (TellsFine scope)) (optional_yields (objects names O) (TellsFine scope) one))))
    (λ v h s o f g. more_fine scope v.1 h.1 s (v.0 s o) f (h.0 s o f g))

collection_yields : (names : Names) (O : Form PlacedToken Says) → Yields O (SaysFine (scope_of names.role)) → Yields (collection names O) (SaysFine (scope_of names.role))
collection_yields names O y =
    let scope = scope_of names.role in
    made_yields (says_collection names.role) (kind OpenParen ▹ many O ◃ kind CloseParen) (AllOf (SaysFine scope)) (SaysFine scope)
    (behind_yields (kind OpenParen) (many O ◃ kind CloseParen) (AllOf (SaysFine scope)) (before_yields (many O) (kind CloseParen) (AllOf (SaysFine scope)) (many_yields O (SaysFine scope) y)))
    (collection_fine names.role)

bracketed_yields : (names : Names) (O : Form PlacedToken Says) → AreLawfulNames names → Yields O (SaysFine (scope_of names.role)) → Yields (bracketed names O) (SaysFine (scope_of names.role))
bracketed_yields names O l y =
    let scope = scope_of names.role in
    made_yields (says_bracketed names.role) (kind OpenBracket ▹ properties names O ◃ kind CloseBracket) (TellsFine scope) (SaysFine scope)
    (behind_yields (kind OpenBracket) (properties names O ◃ kind CloseBracket) (TellsFine scope) (before_yields (properties names O) (kind CloseBracket) (TellsFine scope) (properties_yields names O l y)))
    (λ t h o f. (new_fine names.role o, h (new_node names.role o) (one_more o) (new_fine names.role o) f))

object_yields : (names : Names) → AreLawfulNames names → (depth : ℕ) → Yields (object names depth) (SaysFine (scope_of names.role))
unfolding object
object_yields names l zero ts v e h = plain_yields names l ts v e h
object_yields names l (suc depth) ts v e h =
    elim h [
      | inl a ↦ plain_yields names l ts v e a
      | inr k ↦ elim k [
        | inl b ↦ collection_yields names (object names depth) (object_yields names l depth) ts v e b
        | inr c ↦ bracketed_yields names (object names depth) l (object_yields names l depth) ts v e c
      ]
    ]

-- ---- statements

subject_yields : (names : Names) → AreLawfulNames names → Yields (subject names) (SaysFine (scope_of names.role))
subject_yields names l =
    either_yields (node names) (collection names (any_object names)) (SaysFine (scope_of names.role)) (node_yields names l) (collection_yields names (any_object names) (object_yields names l most_open))

triples_yields : (names : Names) → AreLawfulNames names → Yields (triples names) (KeepsFine (scope_of names.role))
triples_yields names l =
    let scope = scope_of names.role in
    let more = properties_yields names (any_object names) l (object_yields names l most_open) in
    either_yields (Made tells_triples (subject names ⨾ properties names (any_object names))) (Made tells_bracketed (bracketed names (any_object names) ⨾ optional (properties names (any_object names)))) (KeepsFine scope)
    (made_yields tells_triples (subject names ⨾ properties names (any_object names)) (λ v. SaysFine scope v.0 × TellsFine scope v.1) (KeepsFine scope)
    (then_yields (subject names) (properties names (any_object names)) (SaysFine scope) (TellsFine scope) (subject_yields names l) more)
    (λ v h o f. let k = h.0 o f in h.1 (v.0 o).0 (v.0 o).1 k.0 k.1))
    (made_yields tells_bracketed (bracketed names (any_object names) ⨾ optional (properties names (any_object names))) (λ v. SaysFine scope v.0 × IfSome v.1 (TellsFine scope)) (KeepsFine scope)
    (then_yields (bracketed names (any_object names)) (optional (properties names (any_object names))) (SaysFine scope) (λ t. IfSome t (TellsFine scope))
    (bracketed_yields names (any_object names) l (object_yields names l most_open)) (optional_yields (properties names (any_object names)) (TellsFine scope) more))
    (λ v h o f. let k = h.0 o f in optional_fine scope v.1 h.1 (v.0 o).0 (v.0 o).1 k.0 k.1))

-- what the names are behind a statement
pub record AreLawfulAfter (before after : Names) : Type 0 where
  pub lawful : AreLawfulNames after
  pub role : after.role ≡ before.role

prefix_yields : (names : Names) → AreLawfulNames names → Yields (prefix_part names) (AreLawfulAfter names)
prefix_yields names l =
    made_yields (with_prefix names) (Single IsPrefix ⨾ Single (IsReference names)) (λ v. Unit {0} × IsIri v.1) (AreLawfulAfter names)
    (then_yields (Single IsPrefix) (Single (IsReference names)) (λ p. Unit {0}) IsIri (λ ts v e h. tt) (reference_yields names l))
    (λ v h. record {
      lawful = record { base = l.base; namespaces = All-values-insert_entry text_cmp v.0 v.1 IsIri names.namespaces l.namespaces h.1 };
      role = refl;
    })

base_yields : (names : Names) → AreLawfulNames names → Yields (base_part names) (AreLawfulAfter names)
base_yields names l =
    made_yields (with_base names) (Single (IsReference names)) IsIri (AreLawfulAfter names) (reference_yields names l)
    (λ v h. record { lawful = record { base = h; namespaces = l.namespaces }; role = refl })

directive_yields : (names : Names) → AreLawfulNames names → Yields (directive names) (AreLawfulAfter names)
directive_yields names l ts v e h =
    elim h [
      | inl a ↦ behind_yields (keyword Prefix) (prefix_part names ◃ kind Dot) (AreLawfulAfter names) (before_yields (prefix_part names) (kind Dot) (AreLawfulAfter names) (prefix_yields names l)) ts v e a
      | inr i ↦ elim i [
        | inl b ↦ behind_yields (keyword Base) (base_part names ◃ kind Dot) (AreLawfulAfter names) (before_yields (base_part names) (kind Dot) (AreLawfulAfter names) (base_yields names l)) ts v e b
        | inr j ↦ elim j [
          | inl c ↦ behind_yields (keyword SparqlPrefix) (prefix_part names) (AreLawfulAfter names) (prefix_yields names l) ts v e c
          | inr d ↦ behind_yields (keyword SparqlBase) (base_part names) (AreLawfulAfter names) (base_yields names l) ts v e d
        ]
      ]
    ]

-- the names behind a statement, and what it says
pub record IsLawfulMeaning (names : Names) (v : Names × (Output → Output)) : Type 0 where
  pub after : AreLawfulAfter names v.0
  pub says : KeepsFine (scope_of names.role) v.1

pub statement_lawful : (names : Names) → AreLawfulNames names → (ts : List PlacedToken) (v : Names × (Output → Output)) → AreEach ts → statement names ts v → IsLawfulMeaning names v
statement_lawful names l =
    either_yields (Made directs (directive names)) (Made (adds names) (triples names ◃ kind Dot)) (IsLawfulMeaning names)
    (made_yields directs (directive names) (AreLawfulAfter names) (IsLawfulMeaning names) (directive_yields names l) (λ n h. record { after = h; says = λ o f. f }))
    (made_yields (adds names) (triples names ◃ kind Dot) (KeepsFine (scope_of names.role)) (IsLawfulMeaning names)
    (before_yields (triples names) (kind Dot) (KeepsFine (scope_of names.role)) (triples_yields names l)) (λ f h. record { after = record { lawful = l; role = refl }; says = h }))
