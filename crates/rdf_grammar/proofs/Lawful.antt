-- What the productions mean is lawful.
use Rattle.std.proofs.Common.{◌≡◌, ℕ, ◌<◌, Bool, true, false, List, [], ◌∷◌, refl, sym, ap, ◌∙◌, arith, inl, inr}
use Rattle.std.specs.Prelude.{◌&&◌, ◌||◌, ◌==◌, encode_utf8, encode_utf8_all, map}
use Rattle.std.specs.List.{list_all}
use Rattle.std.specs.Int.{is_in_range}
use Rattle.std.specs.Char.{IsScalar, to_ascii_lowercase, is_ascii_digit, is_ascii_alphabetic, is_ascii_alphanumeric}
use Rattle.std.specs.Str.{IsUtf8, all_scalars}
use Rattle.std.proofs.lemmas.Bool.Decides.{nat_tests}
use Rattle.std.proofs.lemmas.Str.{encodes-append, encode_ascii}
use Rattle.std.proofs.lemmas.Str.Ascii.{lowercase-lowercase}
use Rattle.std.proofs.lemmas.List.{map-append}
use Rattle.grammar_forms.specs.Forms.{One, many, some, is_nonempty, silent}
use Rattle.grammar_forms.specs.Names.{IsNameEnd}
use Rattle.rdf_grammar.specs.declared.dialect.Dialect.{Dialect}
use Rattle.rdf_grammar.specs.declared.dialect.Dialect.TheVariants.{NTriples, Turtle}
use Rattle.rdf_grammar.specs.Productions.{is_scalar, is_escape, escape_of, is_iri_char, iri_part, absolute_iri, is_string_char, string_part, string, is_base, is_name_start, is_name_char, is_label_start, label, blank_node_label, subtag, tag, langtag}
use Rattle.rdf_grammar.specs.Lawful.{IsIri, IsLabel, IsTag}

pub scalar_is : (c : ℕ) → is_scalar c ≡ true → IsScalar c
scalar_is c h = grind (arith, nat_tests)

and_first : (x y : Bool) → (x && y) ≡ true → x ≡ true
and_first true y h = refl
and_first false y h = absurd cc

-- ---- IRIs

pub iri_chars : (vs text : List ℕ) → many iri_part text vs → list_all is_iri_char vs ≡ true
iri_chars [] text h = refl
iri_chars (v ∷ vs) text h =
    let one : is_iri_char v ≡ true = elim h.first [ inl k ↦ k.passes | inr k ↦ k.passes ] in
    rw (one, iri_chars vs h.back h.second) refl

pub absolute_iri_lawful : (a v : List ℕ) → absolute_iri a v → IsIri v
absolute_iri_lawful a v h =
    let inner = h.spelled.spelled.second in
    let parts = inner.spelled.first in
    record {
      characters = parts.own;
      spell = sym (h.spelled.means ∙ inner.means ∙ parts.means);
      each = iri_chars parts.own inner.spelled.front parts.spelled;
      scheme = h.has;
    }

-- ---- strings

escape_scalar : (c : ℕ) → is_escape c ≡ true → IsScalar (escape_of c)
escape_scalar c h = grind (arith, nat_tests)

string_char_scalar : (c : ℕ) → is_string_char c ≡ true → IsScalar c
unfolding is_string_char
string_char_scalar c h = scalar_is c (and_first (is_scalar c) _ h)

part_scalar : (a : List ℕ) (v : ℕ) → string_part a v → IsScalar v
part_scalar a v h =
    elim h [
      | inl k ↦ string_char_scalar v k.passes
      | inr k ↦ elim k [ inl e ↦ rw (e.means, e.spelled.means) (escape_scalar e.spelled.own.1 e.spelled.spelled.second.passes) | inr u ↦ scalar_is v u.passes ]
    ]

string_scalars : (vs text : List ℕ) → many string_part text vs → all_scalars vs ≡ true
string_scalars [] text h = refl
string_scalars (v ∷ vs) text h = rw (part_scalar h.front v h.first, string_scalars vs h.back h.second) refl

pub string_lawful : (a v : List ℕ) → string a v → IsUtf8 v
string_lawful a v h =
    let inner = h.spelled.second in
    let parts = inner.spelled.first in
    (parts.own, (string_scalars parts.own inner.spelled.front parts.spelled, sym (h.means ∙ inner.means ∙ parts.means)))

-- ---- labels

start_any : (d : Dialect) (c : ℕ) → is_name_start d c ≡ true → is_name_start NTriples c ≡ true
unfolding is_name_start
start_any NTriples c h = h
start_any Turtle c h = wider (is_base c || (c == 95)) (c == 58) h
  where
    wider : (x y : Bool) → (x || false) ≡ true → (x || y) ≡ true
    wider true y h = refl
    wider false y h = absurd cc

or_more : (x y z : Bool) → (x ≡ true → y ≡ true) → (x || z) ≡ true → (y || z) ≡ true
or_more true y z f h = rw (f refl) refl
or_more false true z f h = refl
or_more false false z f h = h

char_any : (d : Dialect) (c : ℕ) → is_name_char d c ≡ true → is_name_char NTriples c ≡ true
unfolding is_name_char
char_any d c h = or_many (is_name_start d c) (is_name_start NTriples c) (c == 45) (is_ascii_digit c) (c == 0xB7) (is_in_range 0x300 0x36F c) (is_in_range 0x203F 0x2040 c) (start_any d c) h
  where
    or_many : (x y p q r s t : Bool) → (x ≡ true → y ≡ true) → (x || p || q || r || s || t) ≡ true → (y || p || q || r || s || t) ≡ true
    or_many true y p q r s t f h = rw (f refl) refl
    or_many false true p q r s t f h = refl
    or_many false false p q r s t f h = h

label_start_any : (d : Dialect) (c : ℕ) → is_label_start d c ≡ true → is_label_start NTriples c ≡ true
unfolding is_label_start
label_start_any d c h = or_more (is_name_start d c) (is_name_start NTriples c) (is_ascii_digit c) (start_any d c) h

end_any : (d : Dialect) (cs : List ℕ) → IsNameEnd (is_name_char d) cs → IsNameEnd (is_name_char NTriples) cs
end_any d [] h = tt
end_any d (c ∷ []) h = char_any d c h
end_any d (c ∷ e ∷ cs) h = (or_more (is_name_char d c) (is_name_char NTriples c) (c == 46) (char_any d c) h.0, end_any d (e ∷ cs) h.1)

-- a label of Turtle is one of N-Triples
pub label_any : (d : Dialect) (cs : List ℕ) → label d cs tt → label NTriples cs tt
label_any d cs h = record {
  own = h.own;
  spelled = record {
    front = h.spelled.front;
    back = h.spelled.back;
    parts = h.spelled.parts;
    first = record { spelled = h.spelled.first.spelled; passes = label_start_any d h.own.0 h.spelled.first.passes };
    second = end_any d h.spelled.back h.spelled.second;
  };
  means = refl;
}

pub blank_node_label_lawful : (d : Dialect) (a v : List ℕ) → blank_node_label d a v → IsLabel v
blank_node_label_lawful d a v h =
    let spelled = h.spelled.second in
    record {
      characters = h.spelled.back;
      spell = sym (h.means ∙ spelled.means ∙ ap encode_utf8_all spelled.spelled.means);
      is_label = label_any d h.spelled.back spelled.spelled.spelled;
    }

-- ---- language tags

-- characters that are letters or digits, in lower case too, and that UTF-8 spells as themselves
record IsPlain (p : ℕ → Bool) : Type 0 where
  lower : (c : ℕ) → p c ≡ true → p (to_ascii_lowercase c) ≡ true
  ascii : (c : ℕ) → p c ≡ true → encode_utf8 c ≡ c ∷ []

alphabetic_ascii : (c : ℕ) → is_ascii_alphabetic c ≡ true → c < 128
alphabetic_ascii c h = grind (arith, nat_tests)

alphabetic_lower : (c : ℕ) → is_ascii_alphabetic c ≡ true → is_ascii_alphabetic (to_ascii_lowercase c) ≡ true
alphabetic_lower c h = grind (arith, nat_tests)

alphanumeric_ascii : (c : ℕ) → is_ascii_alphanumeric c ≡ true → c < 128
alphanumeric_ascii c h = grind (arith, nat_tests)

alphanumeric_lower : (c : ℕ) → is_ascii_alphanumeric c ≡ true → is_ascii_alphanumeric (to_ascii_lowercase c) ≡ true
alphanumeric_lower c h = grind (arith, nat_tests)

letters_plain : IsPlain is_ascii_alphabetic
letters_plain = record { lower = alphabetic_lower; ascii = λ c h. encode_ascii c (alphabetic_ascii c h) }

alnums_plain : IsPlain is_ascii_alphanumeric
alnums_plain = record { lower = alphanumeric_lower; ascii = λ c h. encode_ascii c (alphanumeric_ascii c h) }

abbrev lowered : List ℕ → List ℕ
lowered cs = map to_ascii_lowercase cs

chars_lower : (p : ℕ → Bool) → IsPlain p → (vs text : List ℕ) → many (One p) text vs → many (One p) (lowered text) (lowered vs) × (encode_utf8_all text ≡ text)
chars_lower p plain [] text h = rw h (refl, refl)
chars_lower p plain (v ∷ vs) text h =
    let rest = chars_lower p plain vs h.back h.second in
    let same : text ≡ v ∷ h.back = rw (h.parts, h.first.spelled) refl in
    rw same (
      record { front = to_ascii_lowercase v ∷ []; back = lowered h.back; parts = refl; first = record { spelled = refl; passes = plain.lower v h.first.passes }; second = rest.0 },
      rw (plain.ascii v h.first.passes, rest.1) refl,
    )

nonempty_lower : (vs : List ℕ) → is_nonempty vs ≡ true → is_nonempty (lowered vs) ≡ true
nonempty_lower [] h = h
nonempty_lower (v ∷ vs) h = refl

run_lower : (p : ℕ → Bool) → IsPlain p → (text : List ℕ) (u : Unit {0}) → silent (some (One p)) text u → silent (some (One p)) (lowered text) tt × (encode_utf8_all text ≡ text)
run_lower p plain text u h =
    let k = chars_lower p plain h.own text h.spelled.spelled in
    (record { own = lowered h.own; spelled = record { spelled = k.0; passes = nonempty_lower h.own h.spelled.passes }; means = refl }, k.1)

subtag_lower : (text : List ℕ) (u : Unit {0}) → subtag text u → subtag (lowered text) tt × (encode_utf8_all text ≡ text)
subtag_lower text u h =
    let k = run_lower is_ascii_alphanumeric alnums_plain h.spelled.back h.own.1 h.spelled.second in
    let same : text ≡ 45 ∷ h.spelled.back = rw (h.spelled.parts, h.spelled.first) refl in
    rw same (
      record { own = (tt, tt); spelled = record { front = 45 ∷ []; back = lowered h.spelled.back; parts = refl; first = refl; second = k.0 }; means = refl },
      rw (encode_ascii 45 (omega arith), k.1) refl,
    )

subtags_lower : (vs : List (Unit {0})) (text : List ℕ) → many subtag text vs → many subtag (lowered text) vs × (encode_utf8_all text ≡ text)
subtags_lower [] text h = rw h (refl, refl)
subtags_lower (v ∷ vs) text h =
    let one = subtag_lower h.front v h.first in
    let rest = subtags_lower vs h.back h.second in (
      record { front = lowered h.front; back = lowered h.back; parts = ap lowered h.parts ∙ map-append to_ascii_lowercase h.front h.back; first = one.0; second = rest.0 },
      rw h.parts (encodes-append h.front h.back ∙ rw (one.1, rest.1) refl),
    )

tag_lower : (text : List ℕ) (u : Unit {0}) → tag text u → tag (lowered text) tt × (encode_utf8_all text ≡ text)
tag_lower text u h =
    let parts = h.spelled in
    let one = run_lower is_ascii_alphabetic letters_plain parts.front h.own.0 parts.first in
    let rest = subtags_lower parts.second.own parts.back parts.second.spelled in (
      record {
        own = (tt, tt);
        spelled = record {
          front = lowered parts.front;
          back = lowered parts.back;
          parts = ap lowered parts.parts ∙ map-append to_ascii_lowercase parts.front parts.back;
          first = one.0;
          second = record { own = parts.second.own; spelled = rest.0; means = refl };
        };
        means = refl;
      },
      rw parts.parts (encodes-append parts.front parts.back ∙ rw (one.1, rest.1) refl),
    )

lower_again : (cs : List ℕ) → lowered (lowered cs) ≡ lowered cs
lower_again [] = refl
lower_again (c ∷ cs) = rw (lowercase-lowercase c, lower_again cs) refl

pub langtag_lawful : (a v : List ℕ) → langtag a v → IsTag v
langtag_lawful a v h =
    let made = h.spelled.second in
    let spelled = made.spelled.spelled in
    let k = tag_lower h.spelled.back spelled.own spelled.spelled in
    let same : v ≡ lowered h.spelled.back = h.means ∙ made.means ∙ ap lowered (made.spelled.means ∙ ap encode_utf8_all spelled.means ∙ k.1) in
    rw same (record { is_tag = k.0; lower = lower_again h.spelled.back })
