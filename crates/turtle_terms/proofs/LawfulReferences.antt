-- A reference that is resolved has characters of IRIs alone, and begins with the scheme of its base.
use Rattle.std.proofs.Common.{◌≡◌, ℕ, zero, suc, ◌+◌, ◌<◌, ◌≤◌, Bool, true, false, cond, not, nat_lt, List, [], ◌∷◌, ◌++◌, length, take, drop, Option, Some, None, refl, sym, ap, subst, ◌∙◌, append_assoc, arith}
use Rattle.std.specs.Prelude.{◌==◌, ◌&&◌, ◌||◌, codes, encode_utf8, encode_utf8_all, is_some, IfSome, nat_eq, option_map, slice_index}
use Rattle.std.specs.Bool.{if◌then◌else◌}
use Rattle.std.specs.List.{list_all, position, position_or_len, before_first, after_first, before_last}
use Rattle.std.specs.Cmp.Lexicographic.{pointwise}
use Rattle.std.specs.Option.{option_or}
use Rattle.std.specs.Char.{is_ascii_alphabetic}
use Rattle.std.specs.Str.{IsUtf8, all_scalars, chars}
use Rattle.std.proofs.lemmas.Bool.{ltb-true, ltb-false, eqb-true, false≢true}
use Rattle.std.proofs.lemmas.Bool.Decides.{nat_tests}
use Rattle.std.proofs.lemmas.List.{append-nil, take-append-drop}
use Rattle.std.proofs.lemmas.List.Folds.{list_all-append}
use Rattle.std.proofs.lemmas.Str.{encode_ascii, encodes-chars, scalars-chars, inside_one}
use Rattle.grammar_forms.specs.Forms.{One, many}
use Rattle.grammar_forms.proofs.Loops.{and_both}
use Rattle.rdf_terms.proofs.Bools.{both_true}
use Rattle.rdf_grammar.specs.Lawful.{IsIri}
use Rattle.rdf_grammar.specs.Productions.{is_scalar, is_iri_char, is_scheme_char, BeginsWithScheme, iriref}
use Rattle.rdf_grammar.specs.Reading.{has_scheme}
use Rattle.rdf_grammar.proofs.Lawful.{iri_chars}
use Rattle.rdf_grammar.proofs.Productions.{scheme_decides}
use Rattle.turtle_tokens.specs.Tokens.{is_iri_char as is_iri_byte}
use Rattle.iri_references.specs.Components.{Components, is_colon, is_slash, is_question_mark, is_number_sign, components_of, behind_first, from_first, hier_part, begins_with}
use Rattle.iri_references.specs.DotSegments.{Buffers, slash_for, segment_len, turn, output_after, without_dot_segments, begins_with_segment}
use Rattle.iri_references.specs.Resolution.{up_to_last, merged, whole_path, target, marked, recomposed, resolved, is_empty}
use Rattle.turtle_terms.proofs.Classes.{below_is, passed}
use Rattle.turtle_terms.proofs.LawfulNames.{wide_right, first_of_both, scalar_first, scalars_right}

-- each byte is no ASCII character, or one of an IRI
abbrev pub Fit : List ℕ → Type 0
Fit bytes = list_all is_iri_byte bytes ≡ true

abbrev FitOption : Option (List ℕ) → Type 0
FitOption o = IfSome o (λ bytes. Fit bytes)

record FitParts (c : Components) : Type 0 where
  authority : FitOption c.authority
  path : Fit c.path
  query : FitOption c.query
  fragment : FitOption c.fragment

record FitBuffers (b : Buffers) : Type 0 where
  input : Fit b.input
  output : Fit b.output

-- ---- cutting and joining

fit_cut : (bs : List ℕ) (n : ℕ) → Fit bs → Fit (take n bs) × Fit (drop n bs)
fit_cut bs n h = and_both (list_all is_iri_byte (take n bs)) (list_all is_iri_byte (drop n bs)) (sym (list_all-append is_iri_byte (take n bs) (drop n bs)) ∙ ap (list_all is_iri_byte) (take-append-drop n bs) ∙ h)

fit_append : (xs ys : List ℕ) → Fit xs → Fit ys → Fit (xs ++ ys)
fit_append xs ys h k = list_all-append is_iri_byte xs ys ∙ both_true (list_all is_iri_byte xs) (list_all is_iri_byte ys) h k

fit_before : (p : ℕ → Bool) (bs : List ℕ) → Fit bs → Fit (before_first p bs)
fit_before p bs h = (fit_cut bs (position_or_len p bs) h).0

fit_from : (p : ℕ → Bool) (bs : List ℕ) → Fit bs → Fit (from_first p bs)
fit_from p bs h = (fit_cut bs (position_or_len p bs) h).1

fit_map : (bs : List ℕ) (o : Option ℕ) → Fit bs → FitOption (option_map (λ i. drop (i + 1) bs) o)
fit_map bs None h = tt
fit_map bs (Some i) h = (fit_cut bs (i + 1) h).1

fit_behind : (p : ℕ → Bool) (bs : List ℕ) → Fit bs → FitOption (behind_first p bs)
fit_behind p bs h = fit_map bs (position p bs) h

fit_if : (b : Bool) (x y : List ℕ) → Fit x → Fit y → Fit (if b then x else y)
fit_if true x y h k = h
fit_if false x y h k = k

fit_if_some : (b : Bool) (x : List ℕ) → Fit x → FitOption (if b then Some x else None)
fit_if_some true x h = h
fit_if_some false x h = tt

fit_or : (a b : Option (List ℕ)) → FitOption a → FitOption b → FitOption (option_or a b)
fit_or (Some x) b h k = h
fit_or None b h k = k

-- ---- components

fit_components : (bs : List ℕ) → Fit bs → FitParts (components_of bs)
fit_components bs h =
    let front = fit_before is_number_sign bs h in
    let hier : Fit (hier_part bs) = fit_before is_question_mark (before_first is_number_sign bs) front in
    let two = (fit_cut (hier_part bs) 2 hier).1 in
    record {
      authority = fit_if_some (begins_with (codes "//") (hier_part bs)) (before_first is_slash (drop 2 (hier_part bs))) (fit_before is_slash (drop 2 (hier_part bs)) two);
      path = fit_if (begins_with (codes "//") (hier_part bs)) (from_first is_slash (drop 2 (hier_part bs))) (hier_part bs) (fit_from is_slash (drop 2 (hier_part bs)) two) hier;
      query = fit_behind is_question_mark (before_first is_number_sign bs) front;
      fragment = fit_behind is_number_sign bs h;
    }

-- ---- dot segments

-- a turn, by which of the rules' texts fit
abbrev turn_of : Bool → Bool → Bool → Bool → Bool → List ℕ → List ℕ → Buffers
turn_of a b c d e i o =
    if a then record { input = drop 3 i; output = o }
    else if b then record { input = drop 2 i; output = o }
    else if c then record { input = slash_for (codes "/.") i; output = o }
    else if d then record { input = slash_for (codes "/..") i; output = before_last is_slash o }
    else if e then record { input = []; output = o }
    else record { input = drop (segment_len i) i; output = o ++ take (segment_len i) i }

fit_slash_for : (prefix bs : List ℕ) → Fit bs → Fit (slash_for prefix bs)
fit_slash_for prefix bs h = fit_append (codes "/") (drop (length prefix + 1) bs) refl (fit_cut bs (length prefix + 1) h).1

fit_before_last : (p : ℕ → Bool) (bs : List ℕ) → Fit bs → Fit (before_last p bs)
fit_before_last p bs h = (fit_cut bs _ h).0

turn_by : (a b c d e : Bool) (i o : List ℕ) → Fit i → Fit o → FitBuffers (turn_of a b c d e i o)
turn_by true b c d e i o h k = record { input = (fit_cut i 3 h).1; output = k }
turn_by false true c d e i o h k = record { input = (fit_cut i 2 h).1; output = k }
turn_by false false true d e i o h k = record { input = fit_slash_for (codes "/.") i h; output = k }
turn_by false false false true e i o h k = record { input = fit_slash_for (codes "/..") i h; output = fit_before_last is_slash o k }
turn_by false false false false true i o h k = record { input = refl; output = k }
turn_by false false false false false i o h k = record { input = (fit_cut i (segment_len i) h).1; output = fit_append o (take (segment_len i) i) k (fit_cut i (segment_len i) h).0 }

fit_turn : (i o : List ℕ) → Fit i → Fit o → FitBuffers (turn i o)
fit_turn i o h k =
    turn_by (begins_with (codes "../") i) (begins_with (codes "./") i) (begins_with_segment (codes "/.") i) (begins_with_segment (codes "/..") i)
    (pointwise nat_eq i (codes ".") || pointwise nat_eq i (codes "..")) i o h k

fit_output : (n : ℕ) (i o : List ℕ) → Fit i → Fit o → Fit (output_after n i o)
fit_output zero i o h k = k
fit_output (suc n) [] o h k = k
fit_output (suc n) (c ∷ cs) o h k =
    let t = fit_turn (c ∷ cs) o h k in
    fit_output n (turn (c ∷ cs) o).input (turn (c ∷ cs) o).output t.input t.output

fit_path : (bs : List ℕ) → Fit bs → Fit (without_dot_segments bs)
fit_path bs h = fit_output (length bs) bs [] h refl

-- ---- the target

fit_up_to : (p : ℕ → Bool) (bs : List ℕ) → Fit bs → Fit (up_to_last p bs)
fit_up_to p bs h = (fit_cut bs _ h).0

fit_merged : (b : Components) (path : List ℕ) → FitParts b → Fit path → Fit (merged b path)
fit_merged b path h k =
    fit_if (is_some b.authority && is_empty b.path) (codes "/" ++ path) (up_to_last is_slash b.path ++ path)
    (fit_append (codes "/") path refl k) (fit_append (up_to_last is_slash b.path) path (fit_up_to is_slash b.path h.path) k)

fit_whole : (b : Components) (path : List ℕ) → FitParts b → Fit path → Fit (whole_path b path)
fit_whole b path h k = fit_if (begins_with (codes "/") path) path (merged b path) k (fit_merged b path h k)

-- the target, by whether the reference has an authority, and whether its path is empty
abbrev target_of : Bool → Bool → Components → Components → Components
target_of x y b r =
    if x then record { authority = r.authority; path = without_dot_segments r.path; query = r.query; fragment = r.fragment }
    else if y then record { authority = b.authority; path = b.path; query = option_or r.query b.query; fragment = r.fragment }
    else record { authority = b.authority; path = without_dot_segments (whole_path b r.path); query = r.query; fragment = r.fragment }

target_by : (x y : Bool) (b r : Components) → FitParts b → FitParts r → FitParts (target_of x y b r)
target_by true y b r h k = record { authority = k.authority; path = fit_path r.path k.path; query = k.query; fragment = k.fragment }
target_by false true b r h k = record { authority = h.authority; path = h.path; query = fit_or r.query b.query k.query h.query; fragment = k.fragment }
target_by false false b r h k = record { authority = h.authority; path = fit_path (whole_path b r.path) (fit_whole b r.path h k.path); query = k.query; fragment = k.fragment }

fit_target : (b r : Components) → FitParts b → FitParts r → FitParts (target b r)
fit_target b r h k = target_by (is_some r.authority) (is_empty r.path) b r h k

fit_marked : (mark : List ℕ) (o : Option (List ℕ)) → Fit mark → FitOption o → Fit (marked mark o)
fit_marked mark None h k = refl
fit_marked mark (Some bs) h k = fit_append mark bs h k

-- a text up to and with one component more
abbrev with_authority : List ℕ → Components → List ℕ
with_authority scheme c = scheme ++ codes ":" ++ marked (codes "//") c.authority

abbrev with_path : List ℕ → Components → List ℕ
with_path scheme c = with_authority scheme c ++ c.path

abbrev with_query : List ℕ → Components → List ℕ
with_query scheme c = with_path scheme c ++ marked (codes "?") c.query

fit_recomposed : (scheme : List ℕ) (c : Components) → Fit scheme → FitParts c → Fit (recomposed scheme c)
fit_recomposed scheme c h k =
    let one : Fit (with_authority scheme c) = fit_append (scheme ++ codes ":") (marked (codes "//") c.authority) (fit_append scheme (codes ":") h refl) (fit_marked (codes "//") c.authority refl k.authority) in
    let two : Fit (with_path scheme c) = fit_append (with_authority scheme c) c.path one k.path in
    let three : Fit (with_query scheme c) = fit_append (with_path scheme c) (marked (codes "?") c.query) two (fit_marked (codes "?") c.query refl k.query) in
    fit_append (with_query scheme c) (marked (codes "#") c.fragment) three (fit_marked (codes "#") c.fragment refl k.fragment)

abbrev target_under : List ℕ → List ℕ → Components
target_under base reference = target (components_of (after_first is_colon base)) (components_of reference)

pub fit_resolved : (base reference : List ℕ) → Fit base → Fit reference → Fit (resolved base reference)
unfolding resolved
fit_resolved base reference h k =
    fit_if (has_scheme reference) reference (recomposed (before_first is_colon base) (target_under base reference)) k
    (fit_recomposed (before_first is_colon base) (target_under base reference) (fit_before is_colon base h)
    (fit_target (components_of (after_first is_colon base)) (components_of reference) (fit_components (after_first is_colon base) (fit_cut base (position_or_len is_colon base + 1) h).1) (fit_components reference k)))

-- ---- characters and bytes

abbrev fit_is_right : ℕ → Bool
fit_is_right c = not (is_iri_byte c) || is_iri_char c

abbrev right_is_fit : ℕ → Bool
right_is_fit c = not (is_iri_char c) || is_iri_byte c

low_right : (c : ℕ) → c < 128 → is_iri_byte c ≡ true → is_iri_char c ≡ true
unfolding is_iri_char
low_right c l h = passed (is_iri_byte c) (is_iri_char c) h (below_is 128 fit_is_right refl c l)

low_fit : (c : ℕ) → c < 128 → is_iri_char c ≡ true → is_iri_byte c ≡ true
unfolding is_iri_char
low_fit c l h = passed (is_iri_char c) (is_iri_byte c) h (below_is 128 right_is_fit refl c l)

wide_fit : (b : ℕ) → 128 ≤ b → is_iri_byte b ≡ true
wide_fit b l = grind (arith, nat_tests)

fit_wide : (xs : List ℕ) → ((k : ℕ) → k < length xs → 128 ≤ slice_index xs k) → Fit xs
fit_wide [] h = refl
fit_wide (x ∷ xs) h = both_true (is_iri_byte x) (list_all is_iri_byte xs) (wide_fit x (h 0 (omega arith))) (fit_wide xs (λ k l. h (suc k) (omega (arith, l))))

at_least : (b c : ℕ) (t : Bool) → nat_lt b 128 ≡ t → 128 ≤ c → (b < 128 → c ≡ b) → 128 ≤ b
at_least b c true e l h = absurd (omega (arith, h (ltb-true b 128 e), ltb-true b 128 e))
at_least b c false e l h = ltb-false b 128 e

wide_bytes : (c : ℕ) → 128 ≤ c → Fit (encode_utf8 c)
wide_bytes c l = fit_wide (encode_utf8 c) (λ k m. at_least (slice_index (encode_utf8 c) k) c (nat_lt (slice_index (encode_utf8 c) k) 128) refl l (inside_one c [] (encode_utf8 c) k (sym (append-nil (encode_utf8 c))) m))

low_bytes : (c : ℕ) → c < 128 → is_iri_char c ≡ true → Fit (encode_utf8 c)
low_bytes c l h = ap (list_all is_iri_byte) (encode_ascii c l) ∙ both_true (is_iri_byte c) true (low_fit c l h) refl

char_bytes : (c : ℕ) (t : Bool) → nat_lt c 128 ≡ t → is_iri_char c ≡ true → Fit (encode_utf8 c)
char_bytes c true e h = low_bytes c (ltb-true c 128 e) h
char_bytes c false e h = wide_bytes c (ltb-false c 128 e)

-- the bytes of characters of IRIs
pub fit_encoded : (cs : List ℕ) → list_all is_iri_char cs ≡ true → Fit (encode_utf8_all cs)
fit_encoded [] h = refl
fit_encoded (c ∷ cs) h =
    let k = and_both (is_iri_char c) (list_all is_iri_char cs) h in
    fit_append (encode_utf8 c) (encode_utf8_all cs) (char_bytes c (nat_lt c 128) refl k.0) (fit_encoded cs k.1)

pub fit_iri : (bs : List ℕ) → IsIri bs → Fit bs
fit_iri bs i = subst (λ (t : List ℕ). Fit t) i.spell (fit_encoded i.characters i.each)

byte_char : (c : ℕ) (t : Bool) → nat_lt c 128 ≡ t → is_scalar c ≡ true → Fit (encode_utf8 c) → is_iri_char c ≡ true
byte_char c true e s h =
    let l = ltb-true c 128 e in
    low_right c l (first_of_both (is_iri_byte c) true (sym (ap (list_all is_iri_byte) (encode_ascii c l)) ∙ h))
byte_char c false e s h = wide_right c (ltb-false c 128 e) s

chars_right : (cs : List ℕ) → all_scalars cs ≡ true → Fit (encode_utf8_all cs) → list_all is_iri_char cs ≡ true
chars_right [] s h = refl
chars_right (c ∷ cs) s h =
    let k = and_both (list_all is_iri_byte (encode_utf8 c)) (list_all is_iri_byte (encode_utf8_all cs)) (sym (list_all-append is_iri_byte (encode_utf8 c) (encode_utf8_all cs)) ∙ h) in
    both_true (is_iri_char c) (list_all is_iri_char cs) (byte_char c (nat_lt c 128) refl (scalar_first c cs s) k.0) (chars_right cs (scalars_right (c ∷ []) cs s) k.1)

pub fit_lawful : (bs : List ℕ) → IsUtf8 bs → Fit bs → BeginsWithScheme bs → IsIri bs
fit_lawful bs u h s = record {
  characters = chars bs;
  spell = encodes-chars bs u;
  each = chars_right (chars bs) (scalars-chars bs u) (subst (λ (t : List ℕ). Fit t) (sym (encodes-chars bs u)) h);
  scheme = s;
}

-- ---- the scheme

no_colon_first : (xs ys : List ℕ) → list_all (λ c. not (is_colon c)) xs ≡ true → before_first is_colon (xs ++ 58 ∷ ys) ≡ xs
no_colon_first [] ys h = refl
no_colon_first (x ∷ xs) ys h =
    let k = and_both (not (is_colon x)) (list_all (λ c. not (is_colon c)) xs) h in
    let n : 1 + position_or_len is_colon (xs ++ 58 ∷ ys) ≡ suc (position_or_len is_colon (xs ++ 58 ∷ ys)) = omega arith in
    ap (λ (b : Bool). take (cond b (1 + position_or_len is_colon (xs ++ 58 ∷ ys)) 0) (x ∷ (xs ++ 58 ∷ ys))) k.0
    ∙ ap (λ (i : ℕ). take i (x ∷ (xs ++ 58 ∷ ys))) n
    ∙ ap (λ (t : List ℕ). x ∷ t) (no_colon_first xs ys k.1)

scheme_no_colon : (c : ℕ) (b : Bool) → (c == 58) ≡ b → is_scheme_char c ≡ true → not (c == 58) ≡ true
scheme_no_colon c true e h = absurd (false≢true (sym (ap is_scheme_char (eqb-true c 58 e)) ∙ h))
scheme_no_colon c false e h = ap not e

alpha_no_colon : (c : ℕ) (b : Bool) → (c == 58) ≡ b → is_ascii_alphabetic c ≡ true → not (c == 58) ≡ true
alpha_no_colon c true e h = absurd (false≢true (sym (ap is_ascii_alphabetic (eqb-true c 58 e)) ∙ h))
alpha_no_colon c false e h = ap not e

run_no_colon : (vs text : List ℕ) → many (One is_scheme_char) text vs → list_all (λ c. not (is_colon c)) text ≡ true
run_no_colon [] text h = ap (list_all (λ c. not (is_colon c))) h
run_no_colon (v ∷ vs) text h =
    ap (list_all (λ c. not (is_colon c))) (h.parts ∙ ap (λ (t : List ℕ). t ++ h.back) h.first.spelled)
    ∙ both_true (not (is_colon v)) (list_all (λ c. not (is_colon c)) h.back) (scheme_no_colon v (v == 58) refl h.first.passes) (run_no_colon vs h.back h.second)

-- what begins with a scheme: the scheme, ':' and the rest
record SchemeParts (text : List ℕ) : Type 0 where
  name : List ℕ
  rest : List ℕ
  parts : text ≡ name ++ 58 ∷ rest
  plain : list_all (λ c. not (is_colon c)) name ≡ true
  begins : BeginsWithScheme (name ++ codes ":")

scheme_parts : (text : List ℕ) → BeginsWithScheme text → SchemeParts text
scheme_parts text h =
    let spelled = h.is_scheme.spelled in
    let last = spelled.second.spelled in
    let run = last.first in
    let name : List ℕ = spelled.front ++ last.front in
    let front : h.front ≡ name ++ codes ":" = spelled.parts ∙ ap (λ (t : List ℕ). spelled.front ++ t) (last.parts ∙ ap (λ (t : List ℕ). last.front ++ t) last.second) ∙ sym (append_assoc spelled.front last.front (codes ":")) in
    record {
      name = name;
      rest = h.rest;
      parts = h.parts ∙ ap (λ (t : List ℕ). t ++ h.rest) front ∙ append_assoc name (codes ":") h.rest;
      plain = list_all-append (λ c. not (is_colon c)) spelled.front last.front
          ∙ both_true (list_all (λ c. not (is_colon c)) spelled.front) (list_all (λ c. not (is_colon c)) last.front)
          (ap (list_all (λ c. not (is_colon c))) spelled.first.spelled ∙ both_true (not (is_colon h.is_scheme.own.0)) true (alpha_no_colon h.is_scheme.own.0 (h.is_scheme.own.0 == 58) refl spelled.first.passes) refl)
          (run_no_colon run.own last.front run.spelled);
      begins = record { front = h.front; rest = []; parts = sym front ∙ sym (append-nil h.front); is_scheme = h.is_scheme };
    }

begins_longer : (xs ys : List ℕ) → BeginsWithScheme xs → BeginsWithScheme (xs ++ ys)
begins_longer xs ys h = record { front = h.front; rest = h.rest ++ ys; parts = ap (λ (t : List ℕ). t ++ ys) h.parts ∙ append_assoc h.front h.rest ys; is_scheme = h.is_scheme }

begins_recomposed : (base : List ℕ) (c : Components) → BeginsWithScheme base → BeginsWithScheme (recomposed (before_first is_colon base) c)
begins_recomposed base c h =
    let p = scheme_parts base h in
    let name : before_first is_colon base ≡ p.name = ap (before_first is_colon) p.parts ∙ no_colon_first p.name p.rest p.plain in
    let scheme : List ℕ = before_first is_colon base in
    let first : BeginsWithScheme (scheme ++ codes ":") = subst (λ (t : List ℕ). BeginsWithScheme (t ++ codes ":")) (sym name) p.begins in
    let one : BeginsWithScheme (with_authority scheme c) = begins_longer (scheme ++ codes ":") (marked (codes "//") c.authority) first in
    let two : BeginsWithScheme (with_path scheme c) = begins_longer (with_authority scheme c) c.path one in
    let three : BeginsWithScheme (with_query scheme c) = begins_longer (with_path scheme c) (marked (codes "?") c.query) two in
    begins_longer (with_query scheme c) (marked (codes "#") c.fragment) three

begins_if : (b : Bool) (x y : List ℕ) → (b ≡ true → BeginsWithScheme x) → BeginsWithScheme y → BeginsWithScheme (if b then x else y)
begins_if true x y h k = h refl
begins_if false x y h k = k

pub begins_resolved : (base reference : List ℕ) → BeginsWithScheme base → BeginsWithScheme (resolved base reference)
unfolding resolved
begins_resolved base reference h =
    begins_if (has_scheme reference) reference (recomposed (before_first is_colon base) (target_under base reference)) (scheme_decides reference).0 (begins_recomposed base (target_under base reference) h)

-- ---- what a token refers to

-- a reference is the UTF-8 of characters of IRIs
pub reference_fit : (cs reference : List ℕ) → iriref cs reference → Fit reference
reference_fit cs reference h =
    let inner = h.spelled.second in
    let parts = inner.spelled.first in
    subst (λ (t : List ℕ). Fit t) (sym (h.means ∙ inner.means ∙ parts.means)) (fit_encoded parts.own (iri_chars parts.own inner.spelled.front parts.spelled))

pub resolved_lawful : (base reference iri : List ℕ) → IsUtf8 iri → iri ≡ resolved base reference → IsIri base → Fit reference → IsIri iri
resolved_lawful base reference iri u e b h =
    fit_lawful iri u (subst (λ (t : List ℕ). Fit t) (sym e) (fit_resolved base reference (fit_iri base b) h))
    (subst (λ (t : List ℕ). BeginsWithScheme t) (sym e) (begins_resolved base reference b.scheme))
