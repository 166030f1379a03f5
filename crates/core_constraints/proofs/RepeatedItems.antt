-- Items that stand twice in a list: however it is ordered, and side by side where it is sorted.
use Rattle.std.proofs.Common.{◌≡◌, ◌↔◌, ℕ, zero, suc, ◌+◌, ◌<◌, ◌≤◌, Bool, true, false, cond, List, [], ◌∷◌, length, get_or, Option, Some, None, slice_get, nat_eq, refl, sym, ap, ◌∙◌, subst, arith}
use Rattle.std.specs.declared.cmp.Ordering.{Ordering}
use Rattle.std.specs.declared.cmp.Ordering.TheVariants.{Less, Equal, Greater}
use Rattle.std.specs.Ordering.{is_lt, ordering_reverse}
use Rattle.std.specs.Cmp.Lexicographic.{pointwise}
use Rattle.std.specs.FinMap.{nat_cmp-IsAntisymmetric, slice_cmp-IsAntisymmetric}
use Rattle.std.specs.List.{filter_map, cons_option, sum_by}
use Rattle.std.specs.List.Sorted.{IsPermutation, IsSorted}
use Rattle.std.proofs.lemmas.Cmp.{nat_list_cmp_total, nat_list_eq_equiv}
use Rattle.std.proofs.lemmas.List.Recursion.{is_sum_by}
use Rattle.std.proofs.lemmas.List.Sorted.{sum_by-IsPermutation, sorted_far, ranks_by}
use Rattle.std.proofs.lemmas.Option.{slice_get-get_or, slice_get_within, get_or_from_slice_get}
use Rattle.std.proofs.lemmas.Slice.Eq.{bytes_eq-Decides}
use Rattle.rdf_terms.specs.Term.{text_cmp}
use Rattle.rdf_navigation.proofs.PropertyLaws.{same_some, not_missing}

-- two places have items that pass the test
pub record IsTwice {X : Type 0} (p : X → Bool) (xs : List X) : Type 0 where
  pub first : ℕ
  pub second : ℕ
  pub item : X
  pub other : X
  pub apart : first < second
  pub at_first : slice_get xs first ≡ Some item
  pub at_second : slice_get xs second ≡ Some other
  pub item_passes : p item ≡ true
  pub other_passes : p other ≡ true

abbrev one_if : Bool → ℕ
one_if b = cond b 1 0

-- how many items pass the test
abbrev count : {X : Type 0} → (X → Bool) → List X → ℕ
count p [] = 0
count p (x ∷ xs) = one_if (p x) + count p xs

module _ {X : Type 0} (p : X → Bool) where
  one_place : (xs : List X) → 0 < count p xs → (j : ℕ) × (y : X) × (slice_get xs j ≡ Some y) × (p y ≡ true)
  one_place [] l = absurd (omega (arith, l))
  one_place (x ∷ xs) l = at (p x) refl l (λ m. one_place xs m)
    where
      at : (b : Bool) → p x ≡ b → 0 < one_if b + count p xs → (0 < count p xs → (j : ℕ) × (y : X) × (slice_get xs j ≡ Some y) × (p y ≡ true)) → (j : ℕ) × (y : X) × (slice_get (x ∷ xs) j ≡ Some y) × (p y ≡ true)
      at true e m on = (0, x, refl, e)
      at false e m on = let r = on (omega (arith, m)) in (suc r.0, r.1, r.2, r.3)

  place_one : (xs : List X) (j : ℕ) (y : X) → slice_get xs j ≡ Some y → p y ≡ true → 0 < count p xs
  place_one [] j y e h = absurd (not_missing y e)
  place_one (x ∷ xs) zero y e h =
      let d : x ≡ y = same_some e in
      let b : one_if (p x) ≡ 1 = ap one_if (ap p d ∙ h) in
      omega (arith, b)
  place_one (x ∷ xs) (suc j) y e h = let r = place_one xs j y e h in omega (arith, r)

  two_places : (xs : List X) → 1 < count p xs → IsTwice p xs
  two_places [] l = absurd (omega (arith, l))
  two_places (x ∷ xs) l = at (p x) refl l (λ m. two_places xs m)
    where
      at : (b : Bool) → p x ≡ b → 1 < one_if b + count p xs → (1 < count p xs → IsTwice p xs) → IsTwice p (x ∷ xs)
      at true e m on =
          let r = one_place xs (omega (arith, m)) in
          record { first = 0; second = suc r.0; item = x; other = r.1; apart = omega arith; at_first = refl; at_second = r.2; item_passes = e; other_passes = r.3 }
      at false e m on =
          let t = on (omega (arith, m)) in
          let l = t.apart in
          record { first = suc t.first; second = suc t.second; item = t.item; other = t.other; apart = omega (arith, l); at_first = t.at_first; at_second = t.at_second; item_passes = t.item_passes; other_passes = t.other_passes }

  places_two : (xs : List X) (i j : ℕ) (x y : X) → i < j → slice_get xs i ≡ Some x → slice_get xs j ≡ Some y → p x ≡ true → p y ≡ true → 1 < count p xs
  places_two [] i j x y l e f g h = absurd (not_missing x e)
  places_two (z ∷ zs) i zero x y l e f g h = absurd (omega (arith, l))
  places_two (z ∷ zs) zero (suc j) x y l e f g h =
      let d : z ≡ x = same_some e in
      let b : one_if (p z) ≡ 1 = ap one_if (ap p d ∙ g) in
      let c = place_one zs j y f h in
      omega (arith, b, c)
  places_two (z ∷ zs) (suc i) (suc j) x y l e f g h = let c = places_two zs i j x y (omega (arith, l)) e f g h in omega (arith, c)

  twice_count : (xs : List X) → IsTwice p xs → 1 < count p xs
  twice_count xs t = places_two xs t.first t.second t.item t.other t.apart t.at_first t.at_second t.item_passes t.other_passes

  count_sum : (xs : List X) → count p xs ≡ sum_by (λ x. one_if (p x)) xs
  count_sum xs = is_sum_by (count p) (λ x. one_if (p x)) refl (λ x zs. refl) xs

  -- another order changes nothing
  pub twice_moved : (xs ys : List X) → IsPermutation xs ys → IsTwice p ys → IsTwice p xs
  twice_moved xs ys m t =
      let c = twice_count ys t in
      let e : count p ys ≡ count p xs = count_sum ys ∙ (sum_by-IsPermutation (λ x. one_if (p x)) xs ys m ∙ sym (count_sum xs)) in
      two_places xs (omega (arith, c, e))

-- whether an optional item passes the test
abbrev pub passes : {Y : Type 0} → (Y → Bool) → Option Y → Bool
passes p None = false
passes p (Some y) = p y

module _ {X Y : Type 0} (f : X → Option Y) (p : Y → Bool) where
  count_mapped : (xs : List X) → count p (filter_map f xs) ≡ count (λ x. passes p (f x)) xs
  count_mapped [] = refl
  count_mapped (x ∷ xs) = at (f x) (count_mapped xs)
    where
      at : (o : Option Y) → count p (filter_map f xs) ≡ count (λ z. passes p (f z)) xs → count p (cons_option o (filter_map f xs)) ≡ one_if (passes p o) + count (λ z. passes p (f z)) xs
      at None e = omega (arith, e)
      at (Some y) e = ap (λ n. one_if (p y) + n) e

  -- what the items give stands twice exactly where two items give it
  pub twice_mapped : (xs : List X) → IsTwice p (filter_map f xs) ↔ IsTwice (λ x. passes p (f x)) xs
  twice_mapped xs = (
    λ t. let c = twice_count p (filter_map f xs) t in let e = count_mapped xs in two_places (λ x. passes p (f x)) xs (omega (arith, c, e)),
    λ t. let c = twice_count (λ x. passes p (f x)) xs t in let e = count_mapped xs in two_places p (filter_map f xs) (omega (arith, c, e)),
  )

-- texts
abbrev pub is_text : List ℕ → List ℕ → Bool
is_text a b = pointwise nat_eq a b

pub text_is : (a b : List ℕ) → is_text a b ≡ true → a ≡ b
text_is a b e = (bytes_eq-Decides a b).0 e

pub is_itself : (a : List ℕ) → is_text a a ≡ true
is_itself a = nat_list_eq_equiv.refl a

-- neither is below the other
same_texts : (a b : List ℕ) → is_lt (text_cmp a b) ≡ false → is_lt (text_cmp b a) ≡ false → a ≡ b
same_texts a b f g = slice_cmp-IsAntisymmetric nat_cmp-IsAntisymmetric a b (at (text_cmp a b) (text_cmp b a) f g (nat_list_cmp_total.antisymm a b))
  where
    at : (o r : Ordering) → is_lt o ≡ false → is_lt r ≡ false → o ≡ ordering_reverse r → o ≡ Equal
    at Less r f g e = cc
    at Equal r f g e = refl
    at Greater Less f g e = cc
    at Greater Equal f g e = cc
    at Greater Greater f g e = cc

-- in order, what stands twice stands twice side by side
pub neighbours : (xs : List (List ℕ)) → IsSorted text_cmp xs → (t : List ℕ) → IsTwice (is_text t) xs → (k : ℕ) × (slice_get xs k ≡ Some t) × (slice_get xs (k + 1) ≡ Some t)
neighbours xs up t w = (w.first, at_i, slice_get-get_or xs (w.first + 1) t next ∙ ap Some (sym between))
  where
    at_i : slice_get xs w.first ≡ Some t
    at_i = w.at_first ∙ ap Some (sym (text_is t w.item w.item_passes))

    at_j : slice_get xs w.second ≡ Some t
    at_j = w.at_second ∙ ap Some (sym (text_is t w.other w.other_passes))

    last : w.second < length xs
    last = slice_get_within xs w.second t at_j

    next : w.first + 1 < length xs
    next = let l = w.apart in let m = last in omega (arith, l, m)

    far : (a b : ℕ) → a ≤ b → b < length xs → is_lt (text_cmp (get_or xs b t) (get_or xs a t)) ≡ false
    far a b le l = sorted_far (λ (x y : List ℕ). is_lt (text_cmp x y)) (ranks_by nat_list_cmp_total (λ (x : List ℕ). x)) xs up a b t le l

    between : t ≡ get_or xs (w.first + 1) t
    between = same_texts t (get_or xs (w.first + 1) t)
        (subst (λ u. is_lt (text_cmp u (get_or xs (w.first + 1) t)) ≡ false) (get_or_from_slice_get xs w.second t t at_j) (let l = w.apart in far (w.first + 1) w.second (omega (arith, l)) last))
        (subst (λ u. is_lt (text_cmp (get_or xs (w.first + 1) t) u) ≡ false) (get_or_from_slice_get xs w.first t t at_i) (far w.first (w.first + 1) (omega arith) next))

pub side_by_side : (xs : List (List ℕ)) (t : List ℕ) (k : ℕ) → slice_get xs k ≡ Some t → slice_get xs (k + 1) ≡ Some t → IsTwice (is_text t) xs
side_by_side xs t k e f = record { first = k; second = k + 1; item = t; other = t; apart = omega arith; at_first = e; at_second = f; item_passes = is_itself t; other_passes = is_itself t }
