-- The canonical text of a lawful term is in the grammar, with the term as its meaning.
use Rattle.std.proofs.Common.{◌≡◌, ℕ, Bool, true, false, cond, not, nat_eq, List, [], ◌∷◌, ◌++◌, Option, None, Some, codes, refl, sym, ap, subst, ◌∙◌, append_assoc, arith, inl, inr}
use Rattle.std.specs.Char.{IsScalar, encode_utf8, is_ascii_digit, is_ascii_alphabetic, is_ascii_alphanumeric}
use Rattle.std.specs.Prelude.{encode_utf8_all, flat_map, ◌||◌, ◌==◌}
use Rattle.std.specs.List.{list_all}
use Rattle.std.specs.Str.{IsUtf8, all_scalars, bytes_eq, str_to_ascii_lowercase}
use Rattle.std.specs.Cmp.Lexicographic.{pointwise}
use Rattle.std.proofs.lemmas.Bool.{eqb-true}
use Rattle.std.proofs.lemmas.Bool.Decides.{nat_tests}
use Rattle.std.proofs.lemmas.List.Concat.{flat_map-cons}
use Rattle.std.proofs.lemmas.List.Folds.{list_all-append}
use Rattle.std.proofs.lemmas.Slice.Eq.{bytes_eq-Decides}
use Rattle.std.proofs.lemmas.Str.{encode_ascii}
use Rattle.grammar_forms.specs.Forms.{Form, One, terminal, many, Made, Verbatim, optional, either, ◌▹◌}
use Rattle.grammar_forms.specs.Names.{IsNameEnd}
use Rattle.rdf_terms.specs.declared.term.Scope.{Scope}
use Rattle.rdf_terms.specs.declared.term.Term.{Term}
use Rattle.rdf_terms.specs.declared.term.Term.TheVariants.{Iri, Blank, Literal}
use Rattle.rdf_terms.specs.Statement.{Statement, is_node, is_iri}
use Rattle.rdf_grammar.specs.declared.dialect.Dialect.TheVariants.{NTriples}
use Rattle.rdf_grammar.specs.Productions.{is_scalar, is_escape, escape_of, echar, is_iri_char, BeginsWithScheme, iri_part, absolute_iri, is_string_char, string_part, string, is_base, is_name_start, is_name_char, is_label_start, label, blank_node_label, subtag, tag, langtag}
use Rattle.rdf_terms.specs.Vocab.Rdf.{lang_string}
use Rattle.rdf_terms.specs.Vocab.Xsd.{string as xsd_string}
use Rattle.rdf_grammar.specs.Lawful.{IsIri, IsLabel, IsTag, IsLiteral, IsLawful}
use Rattle.rdf_grammar.proofs.Lawful.{scalar_is}
use Rattle.ntriples_io.specs.Cutting.{is_plain}
use Rattle.ntriples_io.specs.NTriples.{ws, iri, blank, subject, of_tag, of_datatype, is_not_lang_string, datatype, kind, kind_of, literal_of, literal, object}
use Rattle.ntriples_io.specs.CanonicalText.{escaped, quoted, bracketed, kind_text, term_text}
use Rattle.ntriples_io.specs.RoundTrip.{IsInScope}
use Rattle.ntriples_io.proofs.CuttingLemmas.{and_both}
use Rattle.ntriples_io.proofs.Utf8Bytes.{escaped_text}
use Rattle.ntriples_io.proofs.Spelled.{Spelled, IsPlainClass, scalars-append, plain-append, class_scalars, class_plain, spelled_terminal, spelled_then, spelled_made, spelled_such, spelled_where, spelled_over, spelled_left, spelled_first, spelled_second, spelled_some, spelled_none, same_meaning}

-- ---- IRIs

iri_char_scalar : (c : ℕ) → is_iri_char c ≡ true → IsScalar c
unfolding is_iri_char
iri_char_scalar c h = let both = and_both (is_scalar c) _ h in scalar_is c both.0

iri_char_plain : (c : ℕ) → is_iri_char c ≡ true → is_plain c ≡ true
unfolding is_iri_char
iri_char_plain c h = grind (arith, nat_tests)

iri_chars_plain : IsPlainClass is_iri_char
iri_chars_plain = record { scalar = iri_char_scalar; plain = iri_char_plain }

iri_parts : (cs : List ℕ) → list_all is_iri_char cs ≡ true → many iri_part cs cs
iri_parts [] h = refl
iri_parts (c ∷ cs) h =
    let both = and_both (is_iri_char c) (list_all is_iri_char cs) h in
    record { front = c ∷ []; back = cs; parts = refl; first = inl (record { spelled = refl; passes = both.0 }); second = iri_parts cs both.1 }

iri_spelled : (i : List ℕ) → IsIri i → Spelled absolute_iri (bracketed i) i
unfolding encode_utf8
iri_spelled i h =
    let parts : Spelled (many iri_part) i h.characters = record {
      characters = h.characters;
      are_scalars = class_scalars is_iri_char iri_chars_plain h.characters h.each;
      are_plain = class_plain is_iri_char iri_chars_plain h.characters h.each;
      spell = h.spell;
      spelled = iri_parts h.characters h.each;
    } in
    let inner = same_meaning h.spell (spelled_made encode_utf8_all parts) in
    spelled_where BeginsWithScheme (spelled_over (spelled_terminal (codes "<") refl refl refl) (spelled_left inner (spelled_terminal (codes ">") refl refl refl))) h.scheme

-- ---- strings

scalar_of : (c : ℕ) → IsScalar c → is_scalar c ≡ true
scalar_of c h = grind (arith, nat_tests)

echar_is : (letter : ℕ) → is_escape letter ≡ true → echar (92 ∷ letter ∷ []) (escape_of letter)
echar_is letter h = record {
  own = letter;
  spelled = record { own = (tt, letter); spelled = record { front = 92 ∷ []; back = letter ∷ []; parts = refl; first = refl; second = record { spelled = refl; passes = h } }; means = refl };
  means = refl;
}

-- how one character stands in a string
record IsPart (text : List ℕ) (c : ℕ) : Type 0 where
  part : string_part text c
  are_scalars : all_scalars text ≡ true
  are_plain : list_all is_plain text ≡ true

escape_part : (letter c : ℕ) → is_escape letter ≡ true → c ≡ escape_of letter → all_scalars (92 ∷ letter ∷ []) ≡ true → list_all is_plain (92 ∷ letter ∷ []) ≡ true → IsPart (92 ∷ letter ∷ []) c
escape_part letter c h e s p = record { part = inr (inl (subst (λ (x : ℕ). echar (92 ∷ letter ∷ []) x) (sym e) (echar_is letter h))); are_scalars = s; are_plain = p }

other_part : (c : ℕ) → IsScalar c → (c == 34) ≡ false → (c == 92) ≡ false → (c == 10) ≡ false → (c == 13) ≡ false → IsPart (c ∷ []) c
unfolding is_string_char
other_part c h p q r s = record { part = inl (record { spelled = refl; passes = rw (scalar_of c h, p, q, r, s) refl }); are_scalars = rw h refl; are_plain = rw (r, s) refl }

part_by : (c : ℕ) (t u v w : Bool) → IsScalar c → (c == 34) ≡ t → (c == 92) ≡ u → (c == 10) ≡ v → (c == 13) ≡ w → IsPart (cond t (92 ∷ 34 ∷ []) (cond u (92 ∷ 92 ∷ []) (cond v (92 ∷ 110 ∷ []) (cond w (92 ∷ 114 ∷ []) (c ∷ []))))) c
part_by c true u v w h p q r s = escape_part 34 c refl (eqb-true c 34 p) refl refl
part_by c false true v w h p q r s = escape_part 92 c refl (eqb-true c 92 q) refl refl
part_by c false false true w h p q r s = escape_part 110 c refl (eqb-true c 10 r) refl refl
part_by c false false false true h p q r s = escape_part 114 c refl (eqb-true c 13 s) refl refl
part_by c false false false false h p q r s = other_part c h p q r s

escaped_part : (c : ℕ) → IsScalar c → IsPart (escaped c) c
escaped_part c h = part_by c (c == 34) (c == 92) (c == 10) (c == 13) h refl refl refl refl

-- how the characters of a text stand in a string
record AreParts (text cs : List ℕ) : Type 0 where
  parts : many string_part text cs
  are_scalars : all_scalars text ≡ true
  are_plain : list_all is_plain text ≡ true

escaped_parts : (cs : List ℕ) → all_scalars cs ≡ true → AreParts (flat_map escaped cs) cs
escaped_parts [] h = record { parts = refl; are_scalars = refl; are_plain = refl }
escaped_parts (c ∷ cs) h =
    let both = and_both _ (all_scalars cs) h in
    let one = escaped_part c both.0 in
    let rest = escaped_parts cs both.1 in
    record {
      parts = record { front = escaped c; back = flat_map escaped cs; parts = flat_map-cons escaped c cs; first = one.part; second = rest.parts };
      are_scalars = scalars-append (escaped c) (flat_map escaped cs) one.are_scalars rest.are_scalars;
      are_plain = plain-append (escaped c) (flat_map escaped cs) one.are_plain rest.are_plain;
    }

string_spelled : (text : List ℕ) → IsUtf8 text → Spelled string (quoted text) text
unfolding encode_utf8
string_spelled text u =
    let k = escaped_parts u.0 u.1.0 in
    let parts : Spelled (many string_part) (flat_map escaped text) u.0 = record {
      characters = flat_map escaped u.0;
      are_scalars = k.are_scalars;
      are_plain = k.are_plain;
      spell = sym (escaped_text u.0) ∙ ap (flat_map escaped) u.1.1;
      spelled = k.parts;
    } in
    let inner = same_meaning u.1.1 (spelled_made encode_utf8_all parts) in
    spelled_over (spelled_terminal (34 ∷ []) refl refl refl) (spelled_left inner (spelled_terminal (34 ∷ []) refl refl refl))

-- ---- labels

abbrev is_label_char : ℕ → Bool
is_label_char c = is_name_char NTriples c || (c == 46)

label_char_scalar : (c : ℕ) → is_label_char c ≡ true → IsScalar c
unfolding is_name_char is_name_start is_base
label_char_scalar c h = grind (arith, nat_tests)

label_char_plain : (c : ℕ) → is_label_char c ≡ true → is_plain c ≡ true
unfolding is_name_char is_name_start is_base
label_char_plain c h = grind (arith, nat_tests)

label_start_char : (c : ℕ) → is_label_start NTriples c ≡ true → is_label_char c ≡ true
unfolding is_label_start is_name_char is_name_start
label_start_char c h = by_parts (is_base c || (c == 95) || (c == 58)) (c == 45) (is_ascii_digit c) _ _ _ (c == 46) h
  where
    by_parts : (x y z p q r s : Bool) → (x || z) ≡ true → ((x || y || z || p || q || r) || s) ≡ true
    by_parts true y z p q r s h = refl
    by_parts false true z p q r s h = refl
    by_parts false false true p q r s h = refl
    by_parts false false false p q r s h = absurd cc

or_true : (x y : Bool) → x ≡ true → (x || y) ≡ true
or_true true y h = refl
or_true false y h = absurd cc

label_end_chars : (cs : List ℕ) → IsNameEnd (is_name_char NTriples) cs → list_all is_label_char cs ≡ true
label_end_chars [] h = refl
label_end_chars (c ∷ []) h = rw (or_true (is_name_char NTriples c) (c == 46) h) refl
label_end_chars (c ∷ d ∷ cs) h = rw (h.0, label_end_chars (d ∷ cs) h.1) refl

label_chars_plain : IsPlainClass is_label_char
label_chars_plain = record { scalar = label_char_scalar; plain = label_char_plain }

label_chars : (cs : List ℕ) → label NTriples cs tt → list_all is_label_char cs ≡ true
label_chars cs h =
    let same : cs ≡ h.own.0 ∷ h.spelled.back = rw (h.spelled.parts, h.spelled.first.spelled) refl in
    rw same (rw (label_start_char h.own.0 h.spelled.first.passes, label_end_chars h.spelled.back h.spelled.second) refl)

label_spelled : (l : List ℕ) → IsLabel l → Spelled (blank_node_label NTriples) (codes "_:" ++ l) l
unfolding encode_utf8
label_spelled l h =
    let each = label_chars h.characters h.is_label in
    let text : Spelled (Verbatim (label NTriples)) l h.characters = record {
      characters = h.characters;
      are_scalars = class_scalars is_label_char label_chars_plain h.characters each;
      are_plain = class_plain is_label_char label_chars_plain h.characters each;
      spell = h.spell;
      spelled = record { own = tt; spelled = h.is_label; means = refl };
    } in
    spelled_over (spelled_terminal (codes "_:") refl refl refl) (same_meaning h.spell (spelled_made encode_utf8_all text))

-- ---- language tags

abbrev is_tag_char : ℕ → Bool
is_tag_char c = is_ascii_alphanumeric c || (c == 45)

tag_char_scalar : (c : ℕ) → is_tag_char c ≡ true → IsScalar c
tag_char_scalar c h = grind (arith, nat_tests)

tag_char_plain : (c : ℕ) → is_tag_char c ≡ true → is_plain c ≡ true
tag_char_plain c h = grind (arith, nat_tests)

tag_char_ascii : (c : ℕ) → is_tag_char c ≡ true → encode_utf8 c ≡ c ∷ []
tag_char_ascii c h = encode_ascii c (grind (arith, nat_tests))

tag_chars_plain : IsPlainClass is_tag_char
tag_chars_plain = record { scalar = tag_char_scalar; plain = tag_char_plain }

tag_text_ascii : (cs : List ℕ) → list_all is_tag_char cs ≡ true → encode_utf8_all cs ≡ cs
tag_text_ascii [] h = refl
tag_text_ascii (c ∷ cs) h = let both = and_both (is_tag_char c) (list_all is_tag_char cs) h in rw (tag_char_ascii c both.0, tag_text_ascii cs both.1) refl

letter_in_tag : (c : ℕ) → is_ascii_alphabetic c ≡ true → is_tag_char c ≡ true
letter_in_tag c h = grind (arith, nat_tests)

alnum_in_tag : (c : ℕ) → is_ascii_alphanumeric c ≡ true → is_tag_char c ≡ true
alnum_in_tag c h = or_true (is_ascii_alphanumeric c) (c == 45) h

run_chars : (p : ℕ → Bool) → ((c : ℕ) → p c ≡ true → is_tag_char c ≡ true) → (vs text : List ℕ) → many (One p) text vs → list_all is_tag_char text ≡ true
run_chars p f [] text h = rw h refl
run_chars p f (v ∷ vs) text h =
    let same : text ≡ v ∷ h.back = rw (h.parts, h.first.spelled) refl in
    rw same (rw (f v h.first.passes, run_chars p f vs h.back h.second) refl)

subtag_chars : (vs : List (Unit {0})) (text : List ℕ) → many subtag text vs → list_all is_tag_char text ≡ true
subtag_chars [] text h = rw h refl
subtag_chars (v ∷ vs) text h =
    let run = h.first.spelled.second in
    let one : list_all is_tag_char h.first.spelled.back ≡ true = run_chars is_ascii_alphanumeric alnum_in_tag run.own h.first.spelled.back run.spelled.spelled in
    let front : list_all is_tag_char h.front ≡ true = rw (h.first.spelled.parts, h.first.spelled.first) one in
    ap (list_all is_tag_char) h.parts ∙ list_all-append is_tag_char h.front h.back ∙ rw (front, subtag_chars vs h.back h.second) refl

tag_chars : (text : List ℕ) → tag text tt → list_all is_tag_char text ≡ true
tag_chars text h =
    let parts = h.spelled in
    let front = run_chars is_ascii_alphabetic letter_in_tag parts.first.own parts.front parts.first.spelled.spelled in
    let back = subtag_chars parts.second.own parts.back parts.second.spelled in
    ap (list_all is_tag_char) parts.parts ∙ list_all-append is_tag_char parts.front parts.back ∙ rw (front, back) refl

tag_spelled : (t : List ℕ) → IsTag t → Spelled langtag (codes "@" ++ t) t
unfolding encode_utf8
tag_spelled t h =
    let each = tag_chars t h.is_tag in
    let ascii = tag_text_ascii t each in
    let text : Spelled (Verbatim tag) t t = record {
      characters = t;
      are_scalars = class_scalars is_tag_char tag_chars_plain t each;
      are_plain = class_plain is_tag_char tag_chars_plain t each;
      spell = ascii;
      spelled = record { own = tt; spelled = h.is_tag; means = refl };
    } in
    let means : str_to_ascii_lowercase (encode_utf8_all t) ≡ t = ap str_to_ascii_lowercase ascii ∙ h.lower in
    spelled_over (spelled_terminal (codes "@") refl refl refl) (same_meaning means (spelled_made str_to_ascii_lowercase (spelled_made encode_utf8_all text)))

-- ---- literals

pub no_space : Spelled ws [] tt
no_space = record { characters = []; are_scalars = refl; are_plain = refl; spell = refl; spelled = record { own = []; spelled = refl; means = refl } }

pub space : Spelled ws (codes " ") tt
unfolding encode_utf8
space = record {
  characters = codes " ";
  are_scalars = refl;
  are_plain = refl;
  spell = refl;
  spelled = record { own = codes " "; spelled = record { front = codes " "; back = []; parts = refl; first = record { spelled = refl; passes = refl }; second = refl }; means = refl };
}

abbrev kind_or_none : Form ℕ (List ℕ × Option (List ℕ))
kind_or_none = Made kind_of (optional (ws ▹ kind))

not_lang_string : (d : List ℕ) → (d ≡ lang_string → ⊥) → is_not_lang_string d ≡ true
not_lang_string d h = by_test (bytes_eq d lang_string) refl
  where
    by_test : (b : Bool) → bytes_eq d lang_string ≡ b → not b ≡ true
    by_test true e = absurd (h ((bytes_eq-Decides d lang_string).0 e))
    by_test false e = refl

datatype_spelled : (d : List ℕ) → IsIri d → (d ≡ lang_string → ⊥) → (b : Bool) → pointwise nat_eq d xsd_string ≡ b → Spelled kind_or_none (cond b [] (codes "^^" ++ bracketed d)) (d, None)
unfolding encode_utf8
datatype_spelled d h other true e =
    let same : d ≡ xsd_string = (bytes_eq-Decides d xsd_string).0 e in
    same_meaning (ap (λ (x : List ℕ). (x, None)) (sym same)) (spelled_made kind_of (spelled_none (ws ▹ kind)))
datatype_spelled d h other false e =
    let iri = spelled_such is_not_lang_string (iri_spelled d h) (not_lang_string d other) in
    let behind = spelled_made of_datatype (spelled_over (spelled_terminal (codes "^^") refl refl refl) (spelled_over no_space iri)) in
    spelled_made kind_of (spelled_some (spelled_over no_space (spelled_second (Made of_tag langtag) behind)))

kind_spelled : (l d : List ℕ) (t : Option (List ℕ)) → IsLiteral l d t → Spelled kind_or_none (kind_text d t) (d, t)
kind_spelled l d None h = datatype_spelled d h.iri (λ e. let some = h.tagged.0 e in absurd cc) (pointwise nat_eq d xsd_string) refl
kind_spelled l d (Some t) h =
    let same : d ≡ lang_string = h.tagged.1 refl in
    let tag = spelled_made of_tag (tag_spelled t h.lower) in
    same_meaning (ap (λ (x : List ℕ). (x, Some t)) (sym same)) (spelled_made kind_of (spelled_some (spelled_over no_space (spelled_first (Made of_datatype (terminal (codes "^^") ▹ ws ▹ datatype)) tag))))

literal_spelled : (l d : List ℕ) (t : Option (List ℕ)) → IsLiteral l d t → Spelled literal (quoted l ++ kind_text d t) (Literal l d t)
literal_spelled l d t h = spelled_made literal_of (spelled_then (string_spelled l h.text) (kind_spelled l d t h))

-- ---- terms

iri_term_spelled : (i : List ℕ) → IsIri i → Spelled iri (bracketed i) (Iri i)
iri_term_spelled i h = spelled_made Iri (iri_spelled i h)

blank_term_spelled : (scope s : Scope) (l : List ℕ) → IsLabel l → s ≡ scope → Spelled (blank scope) (codes "_:" ++ l) (Blank s l)
blank_term_spelled scope s l h e = same_meaning (ap (λ (x : Scope). Blank x l) (sym e)) (spelled_made (Blank scope) (label_spelled l h))

pub subject_spelled : (scope : Scope) (t : Term) → is_node t ≡ true → IsLawful t → IsInScope scope t → Spelled (subject scope) (term_text t) t
subject_spelled scope (Iri i) n h s = spelled_first (blank scope) (iri_term_spelled i h)
subject_spelled scope (Blank r l) n h s = spelled_second iri (blank_term_spelled scope r l h s)
subject_spelled scope (Literal l d t) n h s = absurd cc

pub predicate_spelled : (t : Term) → is_iri t ≡ true → IsLawful t → Spelled iri (term_text t) t
predicate_spelled (Iri i) n h = iri_term_spelled i h
predicate_spelled (Blank r l) n h = absurd cc
predicate_spelled (Literal l d t) n h = absurd cc

pub object_spelled : (scope : Scope) (t : Term) → IsLawful t → IsInScope scope t → Spelled (object scope) (term_text t) t
object_spelled scope (Iri i) h s = spelled_first (either (blank scope) literal) (iri_term_spelled i h)
object_spelled scope (Blank r l) h s = spelled_second iri (spelled_first literal (blank_term_spelled scope r l h s))
object_spelled scope (Literal l d t) h s = spelled_second iri (spelled_second (blank scope) (literal_spelled l d t h))

-- ---- a line without its LF

abbrev pub body_text : Statement → List ℕ
body_text t = ((((term_text t.subject ++ codes " ") ++ term_text t.predicate) ++ codes " ") ++ term_text t.object) ++ codes " ."

pub regroup : (s p o space end : List ℕ) → s ++ (space ++ (p ++ (space ++ (o ++ end)))) ≡ ((((s ++ space) ++ p) ++ space) ++ o) ++ end
regroup s p o space end =
    sym (append_assoc (((s ++ space) ++ p) ++ space) o end ∙ append_assoc ((s ++ space) ++ p) space (o ++ end) ∙ append_assoc (s ++ space) p (space ++ (o ++ end)) ∙ append_assoc s space (p ++ (space ++ (o ++ end))))
