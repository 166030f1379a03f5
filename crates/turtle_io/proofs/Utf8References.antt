-- A reference that is resolved is UTF-8, since each cut is beside an ASCII character or at an end of the text. So what
-- an IRIREF stands for is an IRI.
use Rattle.std.proofs.Common.{◌≡◌, ℕ, zero, suc, ◌+◌, ◌-◌, ◌<◌, ◌≤◌, Bool, true, false, cond, not, nat_lt, List, [], ◌∷◌, ◌++◌, length, take, drop, reverse, Option, Some, None, refl, sym, ap, subst, ◌∙◌, arith, inl, inr}
use Rattle.std.specs.Prelude.{◌&&◌, ◌||◌, codes, is_some, IfSome, nat_eq, option_map, slice_index}
use Rattle.std.specs.Bool.{if◌then◌else◌}
use Rattle.std.specs.List.{list_all, position_or_len, suffix_len, before_first, after_first, before_last}
use Rattle.std.specs.Cmp.Lexicographic.{pointwise}
use Rattle.std.specs.Option.{option_or}
use Rattle.std.specs.Str.{IsUtf8, IsCharBoundary, all_scalars}
use Rattle.std.proofs.lemmas.Bool.{cases_lt, eqb-true, false≢true}
use Rattle.std.proofs.lemmas.List.{take-append-drop, drop_all, get_or-drop, get_or-reverse, length-drop, length-reverse}
use Rattle.std.proofs.lemmas.List.Sums.{prefix_len-le-length, prefix_len_stops, passes_at_first}
use Rattle.std.proofs.lemmas.Slice.Eq.{bytes_eq-Decides}
use Rattle.std.proofs.lemmas.Str.{IsUtf8-nil, IsUtf8-append, IsUtf8-take, IsUtf8-drop, IsUtf8-from_ascii, IsCharBoundary-start, IsCharBoundary-end, IsCharBoundary-before_ascii, IsCharBoundary-after_ascii}
use Rattle.grammar_forms.proofs.Exactness.{some_is}
use Rattle.grammar_forms.proofs.Loops.{and_both}
use Rattle.rdf_grammar.specs.Lawful.{IsIri}
use Rattle.rdf_grammar.specs.Productions.{is_scalar, is_iri_char, iriref}
use Rattle.rdf_grammar.specs.Reading.{has_scheme}
use Rattle.rdf_grammar.proofs.Lawful.{scalar_is, iri_chars}
use Rattle.rdf_grammar.proofs.Productions.{scheme_decides}
use Rattle.iri_references.specs.Components.{Components, is_colon, is_slash, is_question_mark, is_number_sign, components_of, behind_first, from_first, hier_part, begins_with}
use Rattle.iri_references.specs.DotSegments.{Buffers, slash_for, segment_len, turn, output_after, without_dot_segments, ends_segment, begins_with_segment}
use Rattle.iri_references.specs.Resolution.{up_to_last, merged, whole_path, target, marked, recomposed, resolved, is_empty}
use Rattle.iri_references.proofs.Cutting.{slash_boundary}
use Rattle.turtle_terms.specs.References.{Refers, iri_under}
use Rattle.turtle_terms.proofs.LawfulNames.{first_of_both}
use Rattle.turtle_terms.proofs.LawfulReferences.{fit_lawful, reference_fit, resolved_lawful}
use Rattle.turtle_terms.proofs.QuotedParts.{ascii_list}

abbrev Utf8Option : Option (List ℕ) → Type 0
Utf8Option o = IfSome o (λ bytes. IsUtf8 bytes)

record Utf8Parts (c : Components) : Type 0 where
  authority : Utf8Option c.authority
  path : IsUtf8 c.path
  query : Utf8Option c.query
  fragment : Utf8Option c.fragment

record Utf8Buffers (b : Buffers) : Type 0 where
  input : IsUtf8 b.input
  output : IsUtf8 b.output

-- ---- where a text is cut

abbrev IsLow : (ℕ → Bool) → Type 0
IsLow p = (c : ℕ) → p c ≡ true → c < 128

colon_low : IsLow is_colon
colon_low c h = omega (arith, eqb-true c 58 h)

slash_low : IsLow is_slash
slash_low c h = omega (arith, eqb-true c 47 h)

question_mark_low : IsLow is_question_mark
question_mark_low c h = omega (arith, eqb-true c 63 h)

number_sign_low : IsLow is_number_sign
number_sign_low c h = omega (arith, eqb-true c 35 h)

first_boundary : (p : ℕ → Bool) → IsLow p → (bs : List ℕ) → IsCharBoundary bs (position_or_len p bs)
first_boundary p low bs =
    let bound : position_or_len p bs ≤ length bs = prefix_len-le-length (λ c. not (p c)) bs in
    elim (cases_lt (position_or_len p bs) (length bs)) [
      | inl l ↦ IsCharBoundary-before_ascii bs (position_or_len p bs) l (low (slice_index bs (position_or_len p bs)) (passes_at_first p bs 0 l))
      | inr l ↦ let end : length bs ≡ position_or_len p bs = omega (arith, bound, l) in subst (λ (n : ℕ). IsCharBoundary bs n) end (IsCharBoundary-end bs)
    ]

-- behind an ASCII character, or past the end
behind_at : (bs : List ℕ) (i : ℕ) → IsUtf8 bs → (i < length bs → slice_index bs i < 128) → IsUtf8 (drop (i + 1) bs)
behind_at bs i u h =
    elim (cases_lt i (length bs)) [
      | inl l ↦ IsUtf8-drop bs (i + 1) u (IsCharBoundary-after_ascii bs i u l (h l))
      | inr l ↦ subst (λ (t : List ℕ). IsUtf8 t) (sym (drop_all (i + 1) bs (omega (arith, l)))) IsUtf8-nil
    ]

behind_first_at : (p : ℕ → Bool) → IsLow p → (bs : List ℕ) → IsUtf8 bs → IsUtf8 (drop (position_or_len p bs + 1) bs)
behind_first_at p low bs u = behind_at bs (position_or_len p bs) u (λ l. low (slice_index bs (position_or_len p bs)) (passes_at_first p bs 0 l))

utf8_before : (p : ℕ → Bool) → IsLow p → (bs : List ℕ) → IsUtf8 bs → IsUtf8 (before_first p bs)
utf8_before p low bs u = IsUtf8-take bs (position_or_len p bs) u (first_boundary p low bs)

utf8_from : (p : ℕ → Bool) → IsLow p → (bs : List ℕ) → IsUtf8 bs → IsUtf8 (from_first p bs)
utf8_from p low bs u = IsUtf8-drop bs (position_or_len p bs) u (first_boundary p low bs)

position_by : (bs : List ℕ) (i : ℕ) (b : Bool) → IsUtf8 (drop (i + 1) bs) → Utf8Option (option_map (λ k. drop (k + 1) bs) (cond b (Some i) None))
position_by bs i true u = u
position_by bs i false u = tt

utf8_behind : (p : ℕ → Bool) → IsLow p → (bs : List ℕ) → IsUtf8 bs → Utf8Option (behind_first p bs)
utf8_behind p low bs u = position_by bs (position_or_len p bs) (nat_lt (position_or_len p bs) (length bs)) (behind_first_at p low bs u)

-- ---- the last character that passes

not_false : (b : Bool) → not b ≡ false → b ≡ true
not_false true h = refl
not_false false h = absurd (false≢true (sym h))

-- how long a text is up to and with it
abbrev last_end : (ℕ → Bool) → List ℕ → ℕ
last_end p bs = length bs - suffix_len (λ c. not (p c)) bs

passes_at_last : (p : ℕ → Bool) (bs : List ℕ) → suffix_len (λ c. not (p c)) bs < length bs → p (slice_index bs (last_end p bs - 1)) ≡ true
passes_at_last p bs l =
    let n : ℕ = suffix_len (λ c. not (p c)) bs in
    let place : length bs - 1 - n ≡ last_end p bs - 1 = omega arith in
    let same : slice_index (reverse bs) n ≡ slice_index bs (last_end p bs - 1) = get_or-reverse bs n 0 l ∙ ap (λ (i : ℕ). slice_index bs i) place in
    let stops : not (p (slice_index (reverse bs) n)) ≡ false = prefix_len_stops (λ c. not (p c)) (reverse bs) 0 (omega (arith, l, length-reverse bs)) in
    ap p (sym same) ∙ not_false (p (slice_index (reverse bs) n)) stops

last_boundary : (p : ℕ → Bool) → IsLow p → (bs : List ℕ) → IsUtf8 bs → IsCharBoundary bs (last_end p bs)
last_boundary p low bs u =
    elim (cases_lt (suffix_len (λ c. not (p c)) bs) (length bs)) [
      | inl l ↦
          let at : last_end p bs - 1 + 1 ≡ last_end p bs = omega (arith, l) in
          subst (λ (n : ℕ). IsCharBoundary bs n) at (IsCharBoundary-after_ascii bs (last_end p bs - 1) u (omega (arith, l)) (low (slice_index bs (last_end p bs - 1)) (passes_at_last p bs l)))
      | inr l ↦ let none : zero ≡ last_end p bs = omega (arith, l) in subst (λ (n : ℕ). IsCharBoundary bs n) none (IsCharBoundary-start bs u)
    ]

before_last_boundary : (p : ℕ → Bool) → IsLow p → (bs : List ℕ) → IsUtf8 bs → IsCharBoundary bs (last_end p bs - 1)
before_last_boundary p low bs u =
    elim (cases_lt (suffix_len (λ c. not (p c)) bs) (length bs)) [
      | inl l ↦ IsCharBoundary-before_ascii bs (last_end p bs - 1) (omega (arith, l)) (low (slice_index bs (last_end p bs - 1)) (passes_at_last p bs l))
      | inr l ↦ let none : zero ≡ last_end p bs - 1 = omega (arith, l) in subst (λ (n : ℕ). IsCharBoundary bs n) none (IsCharBoundary-start bs u)
    ]

utf8_before_last : (p : ℕ → Bool) → IsLow p → (bs : List ℕ) → IsUtf8 bs → IsUtf8 (before_last p bs)
utf8_before_last p low bs u = IsUtf8-take bs (last_end p bs - 1) u (before_last_boundary p low bs u)

utf8_up_to : (p : ℕ → Bool) → IsLow p → (bs : List ℕ) → IsUtf8 bs → IsUtf8 (up_to_last p bs)
utf8_up_to p low bs u = IsUtf8-take bs (last_end p bs) u (last_boundary p low bs u)

-- ---- prefixes

prefix_is : (prefix bs : List ℕ) → begins_with prefix bs ≡ true → bs ≡ prefix ++ drop (length prefix) bs
prefix_is prefix bs h =
    let front : prefix ≡ take (length prefix) bs = (bytes_eq-Decides prefix (take (length prefix) bs)).0 h in
    sym (take-append-drop (length prefix) bs) ∙ ap (λ (t : List ℕ). t ++ drop (length prefix) bs) (sym front)

behind_byte : (prefix bs : List ℕ) (i b : ℕ) → IsUtf8 bs → begins_with prefix bs ≡ true → ((rest : List ℕ) → slice_index (prefix ++ rest) i ≡ b) → b < 128 → IsUtf8 (drop (i + 1) bs)
behind_byte prefix bs i b u h at low =
    let is : slice_index bs i ≡ b = ap (λ (t : List ℕ). slice_index t i) (prefix_is prefix bs h) ∙ at (drop (length prefix) bs) in
    behind_at bs i u (λ l. omega (arith, is, low))

next_low : (bs : List ℕ) (n : ℕ) (t : List ℕ) → drop n bs ≡ t → ends_segment t ≡ true → n < length bs → slice_index bs n < 128
next_low bs n [] e h l = absurd (omega (arith, l, ap length e, length-drop n bs))
next_low bs n (c ∷ cs) e h l =
    let none : n + 0 ≡ n = omega arith in
    let at : slice_index bs n ≡ c = ap (λ (k : ℕ). slice_index bs k) (sym none) ∙ sym (get_or-drop n bs 0 0) ∙ ap (λ (t : List ℕ). slice_index t 0) e in
    omega (arith, at, slash_low c h)

segment_ends : (prefix bs : List ℕ) → begins_with_segment prefix bs ≡ true → ends_segment (drop (length prefix) bs) ≡ true
segment_ends prefix bs h = (and_both (begins_with prefix bs) (ends_segment (drop (length prefix) bs)) h).1

slash : IsUtf8 (codes "/")
slash = IsUtf8-from_ascii (codes "/") (ascii_list (codes "/") refl)

utf8_slash_for : (prefix bs : List ℕ) → begins_with_segment prefix bs ≡ true → IsUtf8 bs → IsUtf8 (slash_for prefix bs)
utf8_slash_for prefix bs h u =
    IsUtf8-append (codes "/") (drop (length prefix + 1) bs) slash
    (behind_at bs (length prefix) u (next_low bs (length prefix) (drop (length prefix) bs) refl (segment_ends prefix bs h)))

-- ---- choices

utf8_if : (b : Bool) (x y : List ℕ) → IsUtf8 x → IsUtf8 y → IsUtf8 (if b then x else y)
utf8_if true x y h k = h
utf8_if false x y h k = k

utf8_or : (a b : Option (List ℕ)) → Utf8Option a → Utf8Option b → Utf8Option (option_or a b)
utf8_or (Some x) b h k = h
utf8_or None b h k = k

-- ---- components

authority_by : (b : Bool) (hier : List ℕ) → begins_with (codes "//") hier ≡ b → IsUtf8 hier → Utf8Option (if b then Some (before_first is_slash (drop 2 hier)) else None)
authority_by true hier e u = utf8_before is_slash slash_low (drop 2 hier) (behind_byte (codes "//") hier 1 47 u e (λ rest. refl) (omega arith))
authority_by false hier e u = tt

path_by : (b : Bool) (hier : List ℕ) → begins_with (codes "//") hier ≡ b → IsUtf8 hier → IsUtf8 (if b then from_first is_slash (drop 2 hier) else hier)
path_by true hier e u = utf8_from is_slash slash_low (drop 2 hier) (behind_byte (codes "//") hier 1 47 u e (λ rest. refl) (omega arith))
path_by false hier e u = u

utf8_components : (bs : List ℕ) → IsUtf8 bs → Utf8Parts (components_of bs)
utf8_components bs u =
    let front : IsUtf8 (before_first is_number_sign bs) = utf8_before is_number_sign number_sign_low bs u in
    let hier : IsUtf8 (hier_part bs) = utf8_before is_question_mark question_mark_low (before_first is_number_sign bs) front in
    record {
      authority = authority_by (begins_with (codes "//") (hier_part bs)) (hier_part bs) refl hier;
      path = path_by (begins_with (codes "//") (hier_part bs)) (hier_part bs) refl hier;
      query = utf8_behind is_question_mark question_mark_low (before_first is_number_sign bs) front;
      fragment = utf8_behind is_number_sign number_sign_low bs u;
    }

-- ---- dot segments

-- a turn, by which of the rules' texts fit
abbrev turn_of : Bool → Bool → Bool → Bool → Bool → List ℕ → List ℕ → Buffers
turn_of a b c d e i o =
    if a then record { input = drop 3 i; output = o }
    else if b then record { input = drop 2 i; output = o }
    else if c then record { input = slash_for (codes "/.") i; output = o }
    else if d then record { input = slash_for (codes "/..") i; output = before_last is_slash o }
    else if e then record { input = []; output = o }
    else record { input = drop (segment_len i) i; output = o ++ take (segment_len i) i }

segment_boundary : (x : ℕ) (xs : List ℕ) → IsCharBoundary (x ∷ xs) (segment_len (x ∷ xs))
segment_boundary x xs =
    let place : 1 + position_or_len is_slash (drop 1 (x ∷ xs)) ≡ segment_len (x ∷ xs) = omega arith in
    subst (λ (n : ℕ). IsCharBoundary (x ∷ xs) n) place (slash_boundary (x ∷ xs) 1 (omega arith))

turn_by : (a b c d e : Bool) (x : ℕ) (xs o : List ℕ)
    → begins_with (codes "../") (x ∷ xs) ≡ a → begins_with (codes "./") (x ∷ xs) ≡ b → begins_with_segment (codes "/.") (x ∷ xs) ≡ c → begins_with_segment (codes "/..") (x ∷ xs) ≡ d
    → IsUtf8 (x ∷ xs) → IsUtf8 o → Utf8Buffers (turn_of a b c d e (x ∷ xs) o)
turn_by true b c d e x xs o f g h k u v = record { input = behind_byte (codes "../") (x ∷ xs) 2 47 u f (λ rest. refl) (omega arith); output = v }
turn_by false true c d e x xs o f g h k u v = record { input = behind_byte (codes "./") (x ∷ xs) 1 47 u g (λ rest. refl) (omega arith); output = v }
turn_by false false true d e x xs o f g h k u v = record { input = utf8_slash_for (codes "/.") (x ∷ xs) h u; output = v }
turn_by false false false true e x xs o f g h k u v = record { input = utf8_slash_for (codes "/..") (x ∷ xs) k u; output = utf8_before_last is_slash slash_low o v }
turn_by false false false false true x xs o f g h k u v = record { input = IsUtf8-nil; output = v }
turn_by false false false false false x xs o f g h k u v = record {
  input = IsUtf8-drop (x ∷ xs) (segment_len (x ∷ xs)) u (segment_boundary x xs);
  output = IsUtf8-append o (take (segment_len (x ∷ xs)) (x ∷ xs)) v (IsUtf8-take (x ∷ xs) (segment_len (x ∷ xs)) u (segment_boundary x xs));
}

utf8_turn : (x : ℕ) (xs o : List ℕ) → IsUtf8 (x ∷ xs) → IsUtf8 o → Utf8Buffers (turn (x ∷ xs) o)
utf8_turn x xs o u v =
    turn_by (begins_with (codes "../") (x ∷ xs)) (begins_with (codes "./") (x ∷ xs)) (begins_with_segment (codes "/.") (x ∷ xs)) (begins_with_segment (codes "/..") (x ∷ xs))
    (pointwise nat_eq (x ∷ xs) (codes ".") || pointwise nat_eq (x ∷ xs) (codes "..")) x xs o refl refl refl refl u v

utf8_output : (n : ℕ) (i o : List ℕ) → IsUtf8 i → IsUtf8 o → IsUtf8 (output_after n i o)
utf8_output zero i o u v = v
utf8_output (suc n) [] o u v = v
utf8_output (suc n) (x ∷ xs) o u v =
    let t = utf8_turn x xs o u v in
    utf8_output n (turn (x ∷ xs) o).input (turn (x ∷ xs) o).output t.input t.output

utf8_path : (bs : List ℕ) → IsUtf8 bs → IsUtf8 (without_dot_segments bs)
utf8_path bs u = utf8_output (length bs) bs [] u IsUtf8-nil

-- ---- the target

utf8_merged : (b : Components) (path : List ℕ) → Utf8Parts b → IsUtf8 path → IsUtf8 (merged b path)
utf8_merged b path h u =
    utf8_if (is_some b.authority && is_empty b.path) (codes "/" ++ path) (up_to_last is_slash b.path ++ path)
    (IsUtf8-append (codes "/") path slash u) (IsUtf8-append (up_to_last is_slash b.path) path (utf8_up_to is_slash slash_low b.path h.path) u)

utf8_whole : (b : Components) (path : List ℕ) → Utf8Parts b → IsUtf8 path → IsUtf8 (whole_path b path)
utf8_whole b path h u = utf8_if (begins_with (codes "/") path) path (merged b path) u (utf8_merged b path h u)

-- the target, by whether the reference has an authority, and whether its path is empty
abbrev target_of : Bool → Bool → Components → Components → Components
target_of x y b r =
    if x then record { authority = r.authority; path = without_dot_segments r.path; query = r.query; fragment = r.fragment }
    else if y then record { authority = b.authority; path = b.path; query = option_or r.query b.query; fragment = r.fragment }
    else record { authority = b.authority; path = without_dot_segments (whole_path b r.path); query = r.query; fragment = r.fragment }

target_by : (x y : Bool) (b r : Components) → Utf8Parts b → Utf8Parts r → Utf8Parts (target_of x y b r)
target_by true y b r h k = record { authority = k.authority; path = utf8_path r.path k.path; query = k.query; fragment = k.fragment }
target_by false true b r h k = record { authority = h.authority; path = h.path; query = utf8_or r.query b.query k.query h.query; fragment = k.fragment }
target_by false false b r h k = record { authority = h.authority; path = utf8_path (whole_path b r.path) (utf8_whole b r.path h k.path); query = k.query; fragment = k.fragment }

utf8_target : (b r : Components) → Utf8Parts b → Utf8Parts r → Utf8Parts (target b r)
utf8_target b r h k = target_by (is_some r.authority) (is_empty r.path) b r h k

utf8_marked : (mark : List ℕ) (o : Option (List ℕ)) → IsUtf8 mark → Utf8Option o → IsUtf8 (marked mark o)
utf8_marked mark None h u = IsUtf8-nil
utf8_marked mark (Some bs) h u = IsUtf8-append mark bs h u

utf8_recomposed : (scheme : List ℕ) (c : Components) → IsUtf8 scheme → Utf8Parts c → IsUtf8 (recomposed scheme c)
utf8_recomposed scheme c u k =
    let colon : IsUtf8 (codes ":") = IsUtf8-from_ascii (codes ":") (ascii_list (codes ":") refl) in
    let slashes : IsUtf8 (codes "//") = IsUtf8-from_ascii (codes "//") (ascii_list (codes "//") refl) in
    let query : IsUtf8 (marked (codes "?") c.query) = utf8_marked (codes "?") c.query (IsUtf8-from_ascii (codes "?") (ascii_list (codes "?") refl)) k.query in
    let fragment : IsUtf8 (marked (codes "#") c.fragment) = utf8_marked (codes "#") c.fragment (IsUtf8-from_ascii (codes "#") (ascii_list (codes "#") refl)) k.fragment in
    let one : IsUtf8 (scheme ++ codes ":") = IsUtf8-append scheme (codes ":") u colon in
    let two : IsUtf8 (scheme ++ codes ":" ++ marked (codes "//") c.authority) = IsUtf8-append (scheme ++ codes ":") (marked (codes "//") c.authority) one (utf8_marked (codes "//") c.authority slashes k.authority) in
    let three : IsUtf8 (scheme ++ codes ":" ++ marked (codes "//") c.authority ++ c.path) = IsUtf8-append (scheme ++ codes ":" ++ marked (codes "//") c.authority) c.path two k.path in
    IsUtf8-append (scheme ++ codes ":" ++ marked (codes "//") c.authority ++ c.path ++ marked (codes "?") c.query) (marked (codes "#") c.fragment)
    (IsUtf8-append (scheme ++ codes ":" ++ marked (codes "//") c.authority ++ c.path) (marked (codes "?") c.query) three query) fragment

abbrev target_under : List ℕ → List ℕ → Components
target_under base reference = target (components_of (after_first is_colon base)) (components_of reference)

pub resolved_utf8 : (base reference : List ℕ) → IsUtf8 base → IsUtf8 reference → IsUtf8 (resolved base reference)
unfolding resolved
resolved_utf8 base reference u v =
    utf8_if (has_scheme reference) reference (recomposed (before_first is_colon base) (target_under base reference)) v
    (utf8_recomposed (before_first is_colon base) (target_under base reference) (utf8_before is_colon colon_low base u)
    (utf8_target (components_of (after_first is_colon base)) (components_of reference)
    (utf8_components (after_first is_colon base) (behind_first_at is_colon colon_low base u)) (utf8_components reference v)))

-- ---- what a token refers to

iri_scalar : (c : ℕ) → is_iri_char c ≡ true → is_scalar c ≡ true
unfolding is_iri_char
iri_scalar c h = first_of_both (is_scalar c) _ h

iri_scalars : (cs : List ℕ) → list_all is_iri_char cs ≡ true → all_scalars cs ≡ true
iri_scalars [] h = refl
iri_scalars (c ∷ cs) h =
    let k = and_both (is_iri_char c) (list_all is_iri_char cs) h in
    rw (scalar_is c (iri_scalar c k.0), iri_scalars cs k.1) refl

pub iri_utf8 : (bs : List ℕ) → IsIri bs → IsUtf8 bs
iri_utf8 bs i = (i.characters, (iri_scalars i.characters i.each, i.spell))

reference_utf8 : (text reference : List ℕ) → iriref text reference → IsUtf8 reference
reference_utf8 text reference h =
    let inner = h.spelled.second in
    let parts = inner.spelled.first in
    (parts.own, (iri_scalars parts.own (iri_chars parts.own inner.spelled.front parts.spelled), sym (h.means ∙ inner.means ∙ parts.means)))

none_is : (iri : List ℕ) → None ≡ Some iri → ⊥
none_is iri e = absurd cc

alone_lawful : (text reference iri : List ℕ) (b : Bool) → has_scheme reference ≡ b → iriref text reference → cond b (Some reference) None ≡ Some iri → IsIri iri
alone_lawful text reference iri true s h e =
    subst (λ (t : List ℕ). IsIri t) (some_is reference iri e) (fit_lawful reference (reference_utf8 text reference h) (reference_fit text reference h) ((scheme_decides reference).0 s))
alone_lawful text reference iri false s h e = absurd (none_is iri e)

under_lawful : (base : Option (List ℕ)) (text reference iri : List ℕ) → IfSome base IsIri → iriref text reference → iri_under base reference ≡ Some iri → IsIri iri
under_lawful (Some base) text reference iri b h e =
    let same : iri ≡ resolved base reference = sym (some_is (resolved base reference) iri e) in
    let text_is : IsUtf8 (resolved base reference) = resolved_utf8 base reference (iri_utf8 base b) (reference_utf8 text reference h) in
    resolved_lawful base reference iri (subst (λ (t : List ℕ). IsUtf8 t) (sym same) text_is) same b (reference_fit text reference h)
under_lawful None text reference iri b h e = alone_lawful text reference iri (has_scheme reference) refl h e

pub refers_lawful : (base : Option (List ℕ)) (text iri : List ℕ) → IfSome base IsIri → Refers base text iri → IsIri iri
refers_lawful base text iri b h = under_lawful base text h.reference iri b h.spelled h.stands
