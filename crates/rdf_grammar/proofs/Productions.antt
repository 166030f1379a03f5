-- Each production is read exactly.
use Rattle.std.proofs.Common.{◌≡◌, ℕ, zero, suc, ◌≤◌, ◌<◌, Bool, true, false, cond, List, [], ◌∷◌, ◌++◌, length, Option, Some, None, refl, sym, ap, ◌∙◌, arith, inl, inr}
use Rattle.std.specs.Prelude.{codes, is_some, IfSome, IsTrue, ◌↔◌, not, ◌==◌, option_and_then}
use Rattle.std.specs.List.{find}
use Rattle.std.specs.Char.{digit_value, is_ascii_alphabetic, is_ascii_alphanumeric}
use Rattle.std.specs.Borrow.{Bor}
use Rattle.std.specs.Str.{chars, str_to_ascii_lowercase}
use Rattle.grammar_forms.specs.Forms.{One, many, some, either, Such, silent, written}
use Rattle.grammar_forms.specs.Names.{name_end, NoName}
use Rattle.grammar_forms.specs.Reading.{Read, one_at, many_next, many_at, terminal_at, before, skip_at, skip_some_at}
use Rattle.grammar_forms.specs.Exact.{Exact, anything, IsNonempty}
use Rattle.grammar_forms.proofs.Exactness.{Starts, where_exact, starts_nonempty, Ends, narrow, one_exact, one_nonempty, then_exact, made_exact, such_exact, verbatim_exact, many_exact, many_exact_by, some_exact, either_exact, over_exact, behind_exact, before_exact, silent_exact, written_exact}
use Rattle.grammar_forms.proofs.Loops.{Consumes, consumes}
use Rattle.grammar_forms.proofs.NameEnds.{name_end_exact}
use Rattle.rdf_grammar.specs.declared.dialect.Dialect.{Dialect}
use Rattle.rdf_grammar.specs.declared.dialect.Dialect.TheVariants.{NTriples, Turtle}
use Rattle.rdf_grammar.specs.Answers.{IsRest, Gives}
use Rattle.rdf_grammar.specs.Productions.{is_hex, is_scalar, is_iri_char, is_scheme_char, scheme, BeginsWithScheme, is_string_char, is_escape, escape_of, of_two, of_pairs, of_fours, hex, hex2, hex4, hex8, uchar, iri_part, iriref, absolute_iri, echar, string_part, string, is_base, is_name_start, is_name_char, is_label_start, label, blank_node_label, subtag, tag, langtag}
use Rattle.rdf_grammar.specs.Reading.{hex_at, hex2_at, hex4_at, hex8_at, uchar_at, iri_escape_at, iri_part_at, iri_parts_at, iriref_at, scheme_at, has_scheme, absolute_iri_at, echar_at, string_escape_at, string_part_at, string_parts_at, string_at, label_end_at, label_at, blank_node_label_at, subtag_at, subtags_at, tag_at, langtag_at, AfterTag}

-- ---- hex and UCHAR

pub hex_exact : Exact hex anything hex_at
unfolding hex_at
hex_exact = made_exact digit_value (one_exact is_hex)

pub hex2_exact : Exact hex2 anything hex2_at
unfolding hex2_at
hex2_exact = made_exact of_two (then_exact hex_exact hex_exact (λ b rest v h g. tt))

pub hex4_exact : Exact hex4 anything hex4_at
unfolding hex4_at
hex4_exact = made_exact of_pairs (then_exact hex2_exact hex2_exact (λ b rest v h g. tt))

pub hex8_exact : Exact hex8 anything hex8_at
unfolding hex8_at
hex8_exact = made_exact of_fours (then_exact hex4_exact hex4_exact (λ b rest v h g. tt))

pub uchar_exact : Exact uchar anything uchar_at
unfolding uchar_at
uchar_exact = such_exact is_scalar (either_exact (behind_exact (92 ∷ 117 ∷ []) hex4_exact) (behind_exact (92 ∷ 85 ∷ []) hex8_exact) (λ a rest v h f. rw (h.spelled.parts, h.spelled.first) refl))

pub uchar_starts : (a : List ℕ) (v : ℕ) → uchar a v → Starts 92 a
uchar_starts a v h =
    elim h.spelled [
      | inl k ↦ (117 ∷ k.spelled.back, rw (k.spelled.parts, k.spelled.first) refl)
      | inr k ↦ (85 ∷ k.spelled.back, rw (k.spelled.parts, k.spelled.first) refl)
    ]

pub uchar_shorter : Consumes uchar_at
uchar_shorter = consumes uchar_exact (λ a v h. starts_nonempty 92 a (uchar_starts a v h))

-- what is given took a character at least
pub gives_shorter : (r : List ℕ → Read ℕ ℕ) → Consumes r → (cs : List ℕ) (o : Option (ℕ × Bor (List ℕ))) → Gives (λ c. c) o (r cs) → IfSome o (λ x. length (chars x.1.now) < length cs)
gives_shorter r eats cs None h = tt
gives_shorter r eats cs (Some x) h = eats cs (x.0, chars x.1.now) h

-- ---- IRIREF

iri_escape_exact : Exact (Such is_iri_char uchar) anything iri_escape_at
unfolding iri_escape_at
iri_escape_exact = such_exact is_iri_char uchar_exact

pub iri_part_exact : Exact iri_part anything iri_part_at
unfolding iri_part_at iri_escape_at is_iri_char
iri_part_exact = either_exact (one_exact is_iri_char) iri_escape_exact (λ a rest v h f. let k = uchar_starts a v h.spelled in rw k.1 refl)

pub iri_part_nonempty : IsNonempty iri_part
iri_part_nonempty a v h = elim h [ inl k ↦ one_nonempty is_iri_char a v k | inr k ↦ starts_nonempty 92 a (uchar_starts a v k.spelled) ]

iri_parts_exact : Exact (written (many iri_part)) (λ rest. iri_part_at rest ≡ None) iri_parts_at
unfolding iri_parts_at
iri_parts_exact = written_exact (many_exact iri_part_exact iri_part_nonempty)

stops_iri : (rest : List ℕ) → iri_part_at (62 ∷ rest) ≡ None
unfolding iri_part_at iri_escape_at uchar_at is_iri_char
stops_iri rest = refl

pub iriref_exact : Exact iriref anything iriref_at
unfolding iriref_at
iriref_exact = behind_exact (codes "<") (before_exact (codes ">") iri_parts_exact (λ rest. stops_iri rest))

-- ---- schemes

pub scheme_exact : Exact scheme anything scheme_at
unfolding scheme_at
scheme_exact = over_exact (one_exact is_ascii_alphabetic) (before_exact (codes ":") (silent_exact (many_exact (one_exact is_scheme_char) (one_nonempty is_scheme_char))) (λ rest. refl)) (λ b rest w h g. tt)

some_value : {A : Type 0} (o : Option A) → is_some o ≡ true → (x : A) × (o ≡ Some x)
some_value None e = absurd cc
some_value (Some x) e = (x, refl)

-- the reading function decides the form
pub scheme_decides : (text : List ℕ) → (has_scheme text ≡ true → BeginsWithScheme text) × (BeginsWithScheme text → has_scheme text ≡ true)
scheme_decides text = (
  λ e.
      let found = some_value (scheme_at text) e in
      let h = scheme_exact.sound text found.0 found.1 in
      record { front = h.0; rest = found.0.1; parts = h.2; is_scheme = h.1 },
  λ h. ap has_scheme h.parts ∙ ap is_some (scheme_exact.full h.front h.rest tt h.is_scheme tt),
)

pub scheme_told : (b : Bool) (text : List ℕ) → b ≡ has_scheme text → IsTrue b ↔ BeginsWithScheme text
scheme_told b text e = (λ h. (scheme_decides text).0 (sym e ∙ h), λ h. e ∙ (scheme_decides text).1 h)

-- which byte stands behind the characters of a scheme
abbrev is_colon : Option ℕ → Bool
is_colon None = false
is_colon (Some c) = c == 58

abbrev colon_first : List ℕ → Bool
colon_first [] = false
colon_first (c ∷ cs) = c == 58

-- what is read of a colon behind the characters of a scheme
abbrev colon_at : List ℕ → Read ℕ (Unit {0})
colon_at cs = option_and_then (λ (x : (Unit {0} × Unit {0}) × List ℕ). Some (x.0.0, x.1)) (option_and_then (λ (y : Unit {0} × List ℕ). Some ((tt {0}, y.0), y.1)) (terminal_at (codes ":") cs))

colon_read : (cs : List ℕ) → is_some (colon_at cs) ≡ colon_first cs
colon_read [] = refl
colon_read (c ∷ cs) = by (c == 58) refl
  where
    by : (b : Bool) → (c == 58) ≡ b → is_some (colon_at (c ∷ cs)) ≡ b
    by true e = rw e refl
    by false e = rw e refl

colon_step : (c : ℕ) (cs : List ℕ) (n : ℕ) → colon_first (many_at (one_at is_scheme_char) n cs).1 ≡ is_colon (find (λ x. not (is_scheme_char x)) cs)
    → (b : Bool) → colon_first (many_next (many_at (one_at is_scheme_char) n) (c ∷ cs) (cond b (Some (c, cs)) None)).1 ≡ is_colon (cond (not b) (Some c) (find (λ x. not (is_scheme_char x)) cs))
colon_step c cs n ih true = ih
colon_step c cs n ih false = refl

colon_found : (cs : List ℕ) (n : ℕ) → length cs ≤ n → colon_first (many_at (one_at is_scheme_char) n cs).1 ≡ is_colon (find (λ x. not (is_scheme_char x)) cs)
colon_found [] zero le = refl
colon_found [] (suc n) le = refl
colon_found (c ∷ cs) zero le = absurd (omega arith)
colon_found (c ∷ cs) (suc n) le = colon_step c cs n (colon_found cs n (omega arith)) (is_scheme_char c)

-- the first byte that is no character of a scheme is a colon
pub colon_behind : (cs : List ℕ) → is_some (before (codes ":") (skip_at is_scheme_char) cs) ≡ is_colon (find (λ x. not (is_scheme_char x)) cs)
colon_behind cs = colon_read (many_at (one_at is_scheme_char) (length cs) cs).1 ∙ colon_found cs (length cs) (omega arith)

pub no_colon : (cs : List ℕ) (o : Option ℕ) → o ≡ find (λ x. not (is_scheme_char x)) cs → is_some (before (codes ":") (skip_at is_scheme_char) cs) ≡ is_colon o
no_colon cs o e = colon_behind cs ∙ ap is_colon (sym e)

pub absolute_iri_exact : Exact absolute_iri anything absolute_iri_at
unfolding absolute_iri_at
absolute_iri_exact = where_exact has_scheme BeginsWithScheme scheme_decides iriref_exact

-- ---- strings

pub echar_exact : Exact echar anything echar_at
unfolding echar_at
echar_exact = made_exact escape_of (behind_exact (92 ∷ []) (one_exact is_escape))

-- no ECHAR is a UCHAR
echar_apart : (a rest : List ℕ) (v : ℕ) → uchar a v → echar_at (a ++ rest) ≡ None
unfolding echar_at
echar_apart a rest v h =
    elim h.spelled [
      | inl k ↦ rw (k.spelled.parts, k.spelled.first) refl
      | inr k ↦ rw (k.spelled.parts, k.spelled.first) refl
    ]

pub echar_starts : (a : List ℕ) (v : ℕ) → echar a v → Starts 92 a
echar_starts a v h = (h.spelled.spelled.back, rw (h.spelled.spelled.parts, h.spelled.spelled.first) refl)

pub echar_shorter : Consumes echar_at
echar_shorter = consumes echar_exact (λ a v h. starts_nonempty 92 a (echar_starts a v h))

escapes_start : (a : List ℕ) (v : ℕ) → either echar uchar a v → Starts 92 a
escapes_start a v h = elim h [ inl k ↦ echar_starts a v k | inr k ↦ uchar_starts a v k ]

string_escape_exact : Exact (either echar uchar) anything string_escape_at
unfolding string_escape_at
string_escape_exact = either_exact echar_exact uchar_exact (λ a rest v h f. echar_apart a rest v h)

pub string_part_exact : Exact string_part anything string_part_at
unfolding string_part_at string_escape_at is_string_char
string_part_exact = either_exact (one_exact is_string_char) string_escape_exact (λ a rest v h f. let k = escapes_start a v h in rw k.1 refl)

pub string_part_nonempty : IsNonempty string_part
string_part_nonempty a v h = elim h [ inl k ↦ one_nonempty is_string_char a v k | inr k ↦ starts_nonempty 92 a (escapes_start a v k) ]

string_parts_exact : Exact (written (many string_part)) (λ rest. string_part_at rest ≡ None) string_parts_at
unfolding string_parts_at
string_parts_exact = written_exact (many_exact string_part_exact string_part_nonempty)

stops_string : (rest : List ℕ) → string_part_at (34 ∷ rest) ≡ None
unfolding string_part_at string_escape_at echar_at uchar_at is_string_char
stops_string rest = refl

pub string_exact : Exact string anything string_at
unfolding string_at
string_exact = behind_exact (34 ∷ []) (before_exact (34 ∷ []) string_parts_exact (λ rest. stops_string rest))

-- ---- labels

label_end_exact : (d : Dialect) → Exact (name_end (is_name_char d)) (NoName (is_name_char d)) (label_end_at d)
unfolding label_end_at
label_end_exact d = name_end_exact (is_name_char d)

pub no_dot : (d : Dialect) → is_name_char d 46 ≡ false
unfolding is_name_char is_name_start is_base
no_dot NTriples = refl
no_dot Turtle = refl

pub label_exact : (d : Dialect) → Exact (label d) (NoName (is_name_char d)) (label_at d)
unfolding label_at
label_exact d = over_exact (one_exact (is_label_start d)) (label_end_exact d) (λ b rest w h g. tt)

pub blank_node_label_exact : (d : Dialect) → Exact (blank_node_label d) (NoName (is_name_char d)) (blank_node_label_at d)
unfolding blank_node_label_at
blank_node_label_exact d = behind_exact (codes "_:") (written_exact (verbatim_exact (label_exact d)))

pub blank_node_label_starts : (d : Dialect) (a v : List ℕ) → blank_node_label d a v → Starts 95 a
blank_node_label_starts d a v h = (58 ∷ h.spelled.back, rw (h.spelled.parts, h.spelled.first) refl)

-- ---- language tags

-- one or more of a class
skip_some_exact : (p : ℕ → Bool) → Exact (silent (some (One p))) (λ rest. one_at p rest ≡ None) (skip_some_at p)
skip_some_exact p = silent_exact (some_exact (one_exact p) (one_nonempty p))

pub subtag_exact : Exact subtag (λ rest. one_at is_ascii_alphanumeric rest ≡ None) subtag_at
unfolding subtag_at
subtag_exact = behind_exact (codes "-") (skip_some_exact is_ascii_alphanumeric)

subtag_starts : (a : List ℕ) (v : Unit {0}) → subtag a v → Starts 45 a
subtag_starts a v h = (h.spelled.back, rw (h.spelled.parts, h.spelled.first) refl)

pub subtag_nonempty : IsNonempty subtag
subtag_nonempty a v h = starts_nonempty 45 a (subtag_starts a v h)

no_alnum : (a rest : List ℕ) (v : Unit {0}) → subtag a v → one_at is_ascii_alphanumeric (a ++ rest) ≡ None
no_alnum a rest v h = let k = subtag_starts a v h in rw k.1 refl

subtags_exact : Exact (silent (many subtag)) (Ends (λ rest. one_at is_ascii_alphanumeric rest ≡ None) subtag_at) subtags_at
unfolding subtags_at
subtags_exact = silent_exact (many_exact_by subtag_exact subtag_nonempty no_alnum)

no_letter_by : (b rest : List ℕ) (vs : List (Unit {0})) → many subtag b vs → AfterTag rest → one_at is_ascii_alphabetic (b ++ rest) ≡ None
no_letter_by b rest [] h f = rw h f.no_letter
no_letter_by b rest (v ∷ vs) h f = let k = subtag_starts h.front v h.first in rw (h.parts, k.1) refl

pub tag_exact : Exact tag AfterTag tag_at
unfolding tag_at
tag_exact = over_exact (skip_some_exact is_ascii_alphabetic) (narrow subtags_exact (λ rest (f : AfterTag rest). record { stops = f.no_subtag; may_follow = f.no_alnum })) (λ b rest w h f. no_letter_by b rest h.own h.spelled f)

pub langtag_exact : Exact langtag AfterTag langtag_at
unfolding langtag_at
langtag_exact = behind_exact (codes "@") (made_exact str_to_ascii_lowercase (written_exact (verbatim_exact tag_exact)))

-- ---- what a reader left is a rest

pub label_rest : (d : Dialect) (cs rest : List ℕ) → label_at d cs ≡ Some (tt, rest) → IsRest rest cs
label_rest d cs rest e = let h = (label_exact d).sound cs (tt, rest) e in (h.0, h.2)

pub tag_rest : (cs rest : List ℕ) → tag_at cs ≡ Some (tt, rest) → IsRest rest cs
tag_rest cs rest e = let h = tag_exact.sound cs (tt, rest) e in (h.0, h.2)
