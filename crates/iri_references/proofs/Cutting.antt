-- What the standard library's clauses on patterns say in the words of the components.
use Rattle.std.proofs.Common.{◌≡◌, ◌≢◌, ℕ, ◌+◌, ◌-◌, ◌<◌, ◌≤◌, ◌==◌, Bool, true, false, not, cond, nat_lt, List, [], ◌∷◌, ◌++◌, length, drop, Option, Some, None, is_some, MatchOption, slice_index, codes, refl, sym, ap, subst, ◌∙◌, inl, inr, arith, Bor}
use Rattle.std.proofs.lemmas.Bool.{ne_eqb, eq-eqb, eqb-true, ltb-true, ltb-false, cases_eq, cases_lt}
use Rattle.std.proofs.lemmas.List.{get_or_append_left, get_or-append-add, get_or-drop, length-append, length-drop}
use Rattle.std.proofs.lemmas.List.Sums.{suffix_len_is, prefix_len-le-length, passes_at_first}
use Rattle.std.proofs.lemmas.Str.{IsCharBoundary-before_ascii, IsCharBoundary-end}
use Rattle.std.proofs.lemmas.Str.Pattern.{starts_text}
use Rattle.std.specs.List.{suffix_len, position, position_or_len}
use Rattle.std.specs.Str.{IsCharBoundary}
use Rattle.std.specs.Str.Pattern.{FindsTextPrefix, StripsPrefix}
use Rattle.rdf_grammar.specs.Productions.{BeginsWithScheme}
use Rattle.iri_references.specs.Components.{begins_with, is_slash}

-- ---- prefixes

pub strip_found : (p s : List ℕ) (r : Option (Bor (List ℕ))) → MatchOption r (FindsTextPrefix p s None) (λ x. StripsPrefix (FindsTextPrefix p) s x.now) → is_some r ≡ begins_with p s
strip_found p s None h = starts_text false p s h
strip_found p s (Some x) h = starts_text true p s (h.0, h.1, subst (λ n. IsCharBoundary s n) (sym h.1.0) h.1.2)

same_test : (a b : ℕ) → (a == b) ≡ (b == a)
same_test a b = elim (cases_eq a b) [ inl e ↦ eq-eqb a b e ∙ sym (eq-eqb b a (sym e)) | inr n ↦ ne_eqb a b n ∙ sym (ne_eqb b a (λ e. n (sym e))) ]

pub begins_with_slash : (s : List ℕ) → (slice_index s 0 == 47) ≡ begins_with (codes "/") s
begins_with_slash [] = refl
begins_with_slash (c ∷ cs) = grind (arith, same_test c 47)

-- ---- the first slash

position_by : (n m : ℕ) (b : Bool) (r : Option ℕ) → nat_lt n m ≡ b → n ≤ m → r ≡ cond b (Some n) None → MatchOption r (n ≡ m) (λ i. (i ≡ n) × (i < m))
position_by n m true r t le e = subst (λ o. MatchOption o (n ≡ m) (λ i. (i ≡ n) × (i < m))) (sym e) (refl, ltb-true n m t)
position_by n m false r t le e = subst (λ o. MatchOption o (n ≡ m) (λ i. (i ≡ n) × (i < m))) (sym e) (omega (arith, ltb-false n m t))

pub position_is : (p : ℕ → Bool) (xs : List ℕ) (r : Option ℕ) → r ≡ position p xs → MatchOption r (position_or_len p xs ≡ length xs) (λ i. (i ≡ position_or_len p xs) × (i < length xs))
position_is p xs r e = position_by (position_or_len p xs) (length xs) (nat_lt (position_or_len p xs) (length xs)) r refl (prefix_len-le-length (λ c. not (p c)) xs) e

pub slash_boundary : (text : List ℕ) (start : ℕ) → start ≤ length text → IsCharBoundary text (start + position_or_len is_slash (drop start text))
slash_boundary text start le =
    let rest = drop start text in
    let at = position_or_len is_slash rest in
    let whole : length rest ≡ length text - start = length-drop start text in
    let bound : at ≤ length rest = prefix_len-le-length (λ c. not (is_slash c)) rest in
    elim (cases_lt at (length rest)) [
      | inl l ↦ IsCharBoundary-before_ascii text (start + at) (omega arith) (omega (arith, get_or-drop start text at 0, eqb-true (slice_index rest at) 47 (passes_at_first is_slash rest 0 l)))
      | inr l ↦ (let end : length text ≡ start + at = omega arith in subst (λ n. IsCharBoundary text n) end (IsCharBoundary-end text))
    ]

-- ---- the last slash

abbrev no_slash : ℕ → Bool
no_slash c = not (is_slash c)

-- where the last slash stands, by how many characters behind it are none
pub last_is : (text : List ℕ) (r : Option ℕ)
    → MatchOption r ((i : ℕ) → i < length text → slice_index text i ≢ 47) (λ k. (k < length text) × (slice_index text k ≡ 47) × ((i : ℕ) → k < i → i < length text → slice_index text i ≢ 47))
    → MatchOption r (suffix_len no_slash text ≡ length text) (λ at. (at + 1 + suffix_len no_slash text ≡ length text) × (slice_index text at ≡ 47))
last_is text None h =
    let e = suffix_len_is no_slash text 0 0 (omega arith) (λ k a b. ap not (ne_eqb (slice_index text k) 47 (h k b))) (λ p. absurd (omega arith)) in
    omega (arith, e)
last_is text (Some k) h =
    let at : k + 1 - 1 ≡ k = omega arith in
    let slash : no_slash (slice_index text (k + 1 - 1)) ≡ false = ap (λ i. no_slash (slice_index text i)) at ∙ ap not (eq-eqb (slice_index text k) 47 h.1) in
    let e = suffix_len_is no_slash text (k + 1) 0 (omega (arith, h.0)) (λ i a b. ap not (ne_eqb (slice_index text i) 47 (h.2 i (omega arith) b))) (λ p. slash) in
    (omega (arith, e, h.0), h.1)

-- ---- the colon behind a scheme

abbrev pub Lacks : List ℕ → Type 0
Lacks cs = (i : ℕ) → i < length cs → slice_index cs i ≢ 58

lacks_left : (xs ys : List ℕ) → Lacks (xs ++ ys) → Lacks xs
lacks_left xs ys none i l e = none i (omega (arith, length-append xs ys)) (get_or_append_left xs ys 0 i l ∙ e)

lacks_right : (xs ys : List ℕ) → Lacks (xs ++ ys) → Lacks ys
lacks_right xs ys none i l e = none (length xs + i) (omega (arith, length-append xs ys)) (get_or-append-add xs ys i 0 ∙ e)

pub has_colon : (text : List ℕ) → BeginsWithScheme text → Lacks text → ⊥
has_colon text h none =
    let front : Lacks h.front = lacks_left h.front h.rest (subst (λ cs. Lacks cs) h.parts none) in
    let then = h.is_scheme.spelled in
    let back : Lacks then.back = lacks_right then.front then.back (subst (λ cs. Lacks cs) then.parts front) in
    let last = then.second.spelled in
    let colon : Lacks (codes ":") = subst (λ cs. Lacks cs) last.second (lacks_right last.front last.back (subst (λ cs. Lacks cs) last.parts back)) in
    colon 0 (omega arith) refl
