-- What stands between quotation marks.
use Rattle.std.proofs.Common.{◌≡◌, ℕ, zero, suc, ◌<◌, Bool, true, false, List, [], ◌∷◌, ◌++◌, length, Result, Ok, Err, None, refl, sym, ap, subst, ◌∙◌, inl, inr, arith}
use Rattle.std.specs.Prelude.{encode_utf8, encode_utf8_all, ◌&&◌, cond, codes, nat_eq, nat_lt, slice_index}
use Rattle.std.specs.List.{starts_with}
use Rattle.std.proofs.lemmas.Bool.{ltb-true}
use Rattle.grammar_forms.proofs.Loops.{and_both}
use Rattle.std.specs.Char.{IsScalar}
use Rattle.std.specs.Str.{IsUtf8, IsAscii, all_scalars, chars}
use Rattle.std.proofs.lemmas.Bool.Decides.{nat_tests}
use Rattle.std.proofs.lemmas.List.{append_cancel_left, append_cancel_right}
use Rattle.std.proofs.lemmas.Str.{chars-append, chars-IsAscii, encodes-append, encodes-chars, encodes-IsAscii, encode_ascii, IsUtf8-from_ascii, IsUtf8-past_char, IsUtf8-take, IsCharBoundary-at_seam}
use Rattle.std.proofs.Math.Seq.{take-append_seam}
use Rattle.grammar_forms.specs.Forms.{many, either, written}
use Rattle.grammar_forms.specs.Reading.{Read, one_at, either_at, all_at, written_at}
use Rattle.grammar_forms.specs.Exact.{Exact, anything, IsNonempty}
use Rattle.grammar_forms.proofs.Exactness.{Starts, starts_nonempty, one_exact, one_nonempty, many_exact, either_exact, written_exact}
use Rattle.rdf_grammar.specs.declared.parse_error.ParseError.{ParseError}
use Rattle.rdf_grammar.specs.declared.parse_error.ParseError.TheVariants.{OutOfMemory, NoMatch}
use Rattle.rdf_grammar.specs.Productions.{is_scalar, is_escape, escape_of, echar, uchar}
use Rattle.rdf_grammar.specs.Reading.{echar_at, uchar_at, string_escape_at}
use Rattle.rdf_grammar.proofs.Lawful.{scalar_is}
use Rattle.rdf_grammar.proofs.Productions.{echar_exact, uchar_exact, echar_starts, uchar_starts}
use Rattle.turtle_terms.specs.Answers.{HasNoMeaning, Means, GivesOneMeaning}
use Rattle.turtle_terms.specs.Strings.{is_plain_char, quoted_part, between, marks_of, string}
use Rattle.turtle_terms.proofs.Meanings.{one_meaning}

-- ---- the parts, read exactly

-- no ECHAR is a UCHAR
echar_apart : (a rest : List ℕ) (v : ℕ) → uchar a v → echar_at (a ++ rest) ≡ None
unfolding echar_at
echar_apart a rest v h =
    elim h.spelled [
      | inl k ↦ rw (k.spelled.parts, k.spelled.first) refl
      | inr k ↦ rw (k.spelled.parts, k.spelled.first) refl
    ]

escapes_start : (a : List ℕ) (v : ℕ) → either echar uchar a v → Starts 92 a
escapes_start a v h = elim h [ inl k ↦ echar_starts a v k | inr k ↦ uchar_starts a v k ]

escape_exact : Exact (either echar uchar) anything string_escape_at
unfolding string_escape_at
escape_exact = either_exact echar_exact uchar_exact (λ a rest v h f. echar_apart a rest v h)

abbrev pub part_at : List ℕ → Read ℕ ℕ
part_at = either_at (one_at is_plain_char) string_escape_at

part_exact : Exact quoted_part anything part_at
unfolding is_plain_char
part_exact = either_exact (one_exact is_plain_char) escape_exact (λ a rest v h f. let k = escapes_start a v h in rw k.1 refl)

part_nonempty : IsNonempty quoted_part
part_nonempty a v h = elim h [ inl k ↦ one_nonempty is_plain_char a v k | inr k ↦ starts_nonempty 92 a (escapes_start a v k) ]

pub parts_exact : Exact (written (many quoted_part)) (λ rest. part_at rest ≡ None) (written_at (all_at part_at))
parts_exact = written_exact (many_exact part_exact part_nonempty)

pub no_part : part_at [] ≡ None
unfolding string_escape_at echar_at uchar_at
no_part = refl

-- ---- marks on both sides

pub record IsBetween (marks text v : List ℕ) : Type 0 where
  pub inner : List ℕ
  pub parts : text ≡ marks ++ (inner ++ marks)
  pub has : written (many quoted_part) inner v

between_is : (marks text v : List ℕ) → between marks text v → IsBetween marks text v
between_is marks text v h =
    let k = h.spelled.second in
    record {
      inner = k.spelled.front;
      parts = h.spelled.parts ∙ ap (λ (t : List ℕ). t ++ h.spelled.back) h.spelled.first ∙ ap (λ (t : List ℕ). marks ++ t) (k.spelled.parts ∙ ap (λ (t : List ℕ). k.spelled.front ++ t) k.spelled.second);
      has = subst (λ (w : List ℕ). written (many quoted_part) k.spelled.front w) (sym (h.means ∙ k.means)) k.spelled.first;
    }

is_between : (marks text v inner : List ℕ) → text ≡ marks ++ (inner ++ marks) → written (many quoted_part) inner v → between marks text v
is_between marks text v inner e h = record {
  own = (tt, v);
  spelled = record {
    front = marks;
    back = inner ++ marks;
    parts = e;
    first = refl;
    second = record { own = (v, tt); spelled = record { front = inner; back = marks; parts = refl; first = h; second = refl }; means = refl };
  };
  means = refl;
}

-- the characters of a text between marks
chars_between : (marks token inner : List ℕ) → IsAscii marks → IsUtf8 inner → token ≡ marks ++ (inner ++ marks) → chars token ≡ marks ++ (chars inner ++ marks)
chars_between marks token inner m u e =
    ap chars e ∙ chars-append marks (inner ++ marks) (IsUtf8-from_ascii marks m)
    ∙ ap (λ (t : List ℕ). t ++ chars (inner ++ marks)) (chars-IsAscii marks m)
    ∙ ap (λ (t : List ℕ). marks ++ t) (chars-append inner marks u ∙ ap (λ (t : List ℕ). chars inner ++ t) (chars-IsAscii marks m))

-- what is between the marks is one text
same_inner : (marks a b : List ℕ) → marks ++ (a ++ marks) ≡ marks ++ (b ++ marks) → a ≡ b
same_inner marks a b e = append_cancel_right a b marks (append_cancel_left marks (a ++ marks) (b ++ marks) e)

inner_has : (marks token inner v : List ℕ) → IsAscii marks → IsUtf8 inner → token ≡ marks ++ (inner ++ marks) → between marks (chars token) v → written (many quoted_part) (chars inner) v
inner_has marks token inner v m u e h =
    let k = between_is marks (chars token) v h in
    let same : k.inner ≡ chars inner = same_inner marks k.inner (chars inner) (sym k.parts ∙ chars_between marks token inner m u e) in
    subst (λ (t : List ℕ). written (many quoted_part) t v) same k.has

-- what follows ASCII is text, and what stands before it
after_ascii : (marks rest bytes : List ℕ) → IsAscii marks → IsUtf8 bytes → bytes ≡ marks ++ rest → IsUtf8 rest
after_ascii [] rest bytes m u e = subst (λ (t : List ℕ). IsUtf8 t) e u
after_ascii (c ∷ marks) rest bytes m u e =
    let one : encode_utf8 c ≡ c ∷ [] = encode_ascii c (m 0) in
    let split : bytes ≡ encode_utf8 c ++ (marks ++ rest) = e ∙ ap (λ (t : List ℕ). t ++ (marks ++ rest)) (sym one) in
    after_ascii marks rest (marks ++ rest) (λ i. m (suc i)) (IsUtf8-past_char bytes (marks ++ rest) c u split) refl

before_ascii : (inner marks : List ℕ) → IsAscii marks → IsUtf8 (inner ++ marks) → IsUtf8 inner
before_ascii inner marks m u =
    subst (λ (t : List ℕ). IsUtf8 t) (take-append_seam inner marks)
    (IsUtf8-take (inner ++ marks) (length inner) u (IsCharBoundary-at_seam (inner ++ marks) inner marks refl (IsUtf8-from_ascii marks m)))

inner_utf8 : (marks token inner : List ℕ) → IsAscii marks → IsUtf8 token → token ≡ marks ++ (inner ++ marks) → IsUtf8 inner
inner_utf8 marks token inner m u e = before_ascii inner marks m (after_ascii marks (inner ++ marks) token m u e)

pub between_means : {A : Type 0} (f : A → List ℕ) (r : Result A ParseError) (marks token inner : List ℕ) → IsAscii marks → IsUtf8 token → token ≡ marks ++ (inner ++ marks) → Means f r (written (many quoted_part)) (chars inner) → Means f r (between marks) (chars token)
between_means f (Ok x) marks token inner m u e h = is_between marks (chars token) (f x) (chars inner) (chars_between marks token inner m (inner_utf8 marks token inner m u e) e) h
between_means f (Err OutOfMemory) marks token inner m u e h = tt
between_means f (Err NoMatch) marks token inner m u e h = λ v k. h v (inner_has marks token inner v m (inner_utf8 marks token inner m u e) e k)

pub not_between : (marks token : List ℕ) → IsAscii marks → IsUtf8 token → ((inner : List ℕ) → token ≡ marks ++ (inner ++ marks) → ⊥) → (v : List ℕ) → between marks (chars token) v → ⊥
not_between marks token m u none v h =
    let k = between_is marks (chars token) v h in
    none (encode_utf8_all k.inner)
    (sym (encodes-chars token u) ∙ ap encode_utf8_all k.parts ∙ encodes-append marks (k.inner ++ marks)
    ∙ ap (λ (t : List ℕ). t ++ encode_utf8_all (k.inner ++ marks)) (encodes-IsAscii marks m)
    ∙ ap (λ (t : List ℕ). marks ++ t) (encodes-append k.inner marks ∙ ap (λ (t : List ℕ). encode_utf8_all k.inner ++ t) (encodes-IsAscii marks m)))

-- ---- what it means is text

plain_scalar : (c : ℕ) → is_plain_char c ≡ true → IsScalar c
unfolding is_plain_char
plain_scalar c h = scalar_is c (first (is_scalar c) _ h)
  where
    first : (x y : Bool) → (x && y) ≡ true → x ≡ true
    first true y e = refl
    first false y e = absurd cc

escape_scalar : (c : ℕ) → is_escape c ≡ true → IsScalar (escape_of c)
escape_scalar c h = grind (arith, nat_tests)

part_scalar : (a : List ℕ) (v : ℕ) → quoted_part a v → IsScalar v
part_scalar a v h =
    elim h [
      | inl k ↦ plain_scalar v k.passes
      | inr k ↦ elim k [ inl e ↦ rw (e.means, e.spelled.means) (escape_scalar e.spelled.own.1 e.spelled.spelled.second.passes) | inr u ↦ scalar_is v u.passes ]
    ]

parts_scalars : (vs text : List ℕ) → many quoted_part text vs → all_scalars vs ≡ true
parts_scalars [] text h = refl
parts_scalars (v ∷ vs) text h = rw (part_scalar h.front v h.first, parts_scalars vs h.back h.second) refl

pub between_lawful : (marks text v : List ℕ) → between marks text v → IsUtf8 v
between_lawful marks text v h =
    let k = between_is marks text v h in
    (k.has.own, (parts_scalars k.has.own k.inner k.has.spelled, sym k.has.means))

-- ---- which marks

abbrev pub is_ascii_text : List ℕ → Bool
is_ascii_text [] = true
is_ascii_text (b ∷ bs) = nat_lt b 128 && is_ascii_text bs

ascii_at : (b : ℕ) (bs : List ℕ) → nat_lt b 128 ≡ true → IsAscii bs → (j : ℕ) → slice_index (b ∷ bs) j < 128
ascii_at b bs h k zero = ltb-true b 128 h
ascii_at b bs h k (suc j) = k j

pub ascii_list : (bs : List ℕ) → is_ascii_text bs ≡ true → IsAscii bs
ascii_list [] h = λ i. omega arith
ascii_list (b ∷ bs) h = ascii_at b bs (and_both (nat_lt b 128) (is_ascii_text bs) h).0 (ascii_list bs (and_both (nat_lt b 128) (is_ascii_text bs) h).1)

marks_by : (x y z : Bool) → IsAscii (cond x (codes "\"\"\"") (cond y (codes "'''") (cond z (codes "'") (codes "\""))))
marks_by true y z = ascii_list (codes "\"\"\"") refl
marks_by false true z = ascii_list (codes "'''") refl
marks_by false false true = ascii_list (codes "'") refl
marks_by false false false = ascii_list (codes "\"") refl

pub marks_ascii : (bytes : List ℕ) → IsAscii (marks_of bytes)
unfolding marks_of
marks_ascii bytes = marks_by (starts_with nat_eq bytes (codes "\"\"\"")) (starts_with nat_eq bytes (codes "'''")) (starts_with nat_eq bytes (codes "'"))

marks_are : (token marks : List ℕ) → IsUtf8 token → marks ≡ marks_of token → marks ≡ marks_of (encode_utf8_all (chars token))
marks_are token marks u e = e ∙ ap marks_of (sym (encodes-chars token u))

pub string_read : (token marks v : List ℕ) → IsUtf8 token → marks ≡ marks_of token → between marks (chars token) v → string (chars token) v
string_read token marks v u e h = subst (λ (m : List ℕ). between m (chars token) v) (marks_are token marks u e) h

pub string_missed : (token marks : List ℕ) → IsUtf8 token → marks ≡ marks_of token → (error : ParseError) → HasNoMeaning error (between marks) (chars token) → HasNoMeaning error string (chars token)
string_missed token marks u e OutOfMemory h = tt
string_missed token marks u e NoMatch h = λ v k. h v (subst (λ (m : List ℕ). between m (chars token) v) (sym (marks_are token marks u e)) k)

-- ---- one meaning

pub between_once : (marks : List ℕ) → GivesOneMeaning (between marks)
between_once marks text v w h k =
    let a = between_is marks text v h in
    let b = between_is marks text w k in
    let same : a.inner ≡ b.inner = same_inner marks a.inner b.inner (sym a.parts ∙ b.parts) in
    one_meaning (written (many quoted_part)) (λ t. part_at t ≡ None) (written_at (all_at part_at)) parts_exact no_part b.inner v w
    (subst (λ (t : List ℕ). written (many quoted_part) t v) same a.has) b.has

pub string_once : GivesOneMeaning string
string_once text v w h k = between_once (marks_of (encode_utf8_all text)) text v w h k
