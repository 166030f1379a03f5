-- What is in a set that was made from others, and that a set is what is in it.
use Rattle.std.proofs.Common.{◌≡◌, ℕ, zero, suc, ◌+◌, ◌<◌, ◌≤◌, ◌⊎◌, inl, inr, Bool, true, false, cond, not, ◌&&◌, ◌||◌, IsTrue, T, List, [], ◌∷◌, ◌++◌, map, length, slice_get, Option, Some, None, refl, sym, ap, ◌∙◌, subst, is_some, Contains, arith}
use Rattle.std.specs.declared.cmp.Ordering.{Ordering}
use Rattle.std.specs.declared.cmp.Ordering.TheVariants.{Less, Equal, Greater}
use Rattle.std.specs.Ordering.{is_eq, eq_by_cmp}
use Rattle.std.specs.Cmp.{IsTotalOrder, IsEquivalence, tied_itself}
use Rattle.std.specs.List.{list_any, filter, dedup}
use Rattle.std.specs.List.Retain.{IsFiltered, DiffersFromLast}
use Rattle.std.proofs.lemmas.Cmp.{eq_by_cmp_equiv}
use Rattle.std.proofs.lemmas.Map.Views.{list_any-from_Contains, Contains-from_any}
use Rattle.std.specs.List.Sorted.{IsPermutation, IsSorted}
use Rattle.std.proofs.Math.Path.{fun_ext}
use Rattle.std.proofs.lemmas.List.Folds.{list_any-append}
use Rattle.std.proofs.lemmas.List.Filters.{dedup_is}
use Rattle.std.proofs.lemmas.List.Kept.{IsStrictlySortedBy-dedup, Contains-dedup, Contains-from_dedup}
use Rattle.std.proofs.lemmas.List.Sorted.{Contains-permutation, IsPermutation-sym}
use Rattle.std.specs.FinMap as finite
use Rattle.std.specs.FinMap.{IsAntisymmetric}
use Rattle.std.specs.FinMap.Entries.{below_all}
use Rattle.std.proofs.lemmas.Option.{slice_get_within, get_or_from_slice_get, slice_get-get_or}
use Rattle.rdf_terms.proofs.Bools.{true_of, both_left, both_right, both_true, either_right, or_false, or_swap, alike}
use Rattle.rdf_terms.proofs.Orders.{lt_or_le, less_of, equal_of}
use Rattle.rdf_terms.proofs.Members.{in_filter, filter_in}
use Rattle.rdf_terms.proofs.Sets as sets
use Rattle.rdf_terms.proofs.Sets.{items-of_rising, has-of_rising, rising-filter, rising_of_strict}
use Rattle.rdf_terms.specs.Set.{Set, is_rising, of_rising, items, has, with, including, of_list, without, edited, empty, marked}

pub has-empty : {K : Type 0} (R : K → K → Ordering) (q : K) → has (empty {R = R}) q ≡ false
has-empty R q = ap is_some (finite.get-empty R q)

module _ {K : Type 0} {R : K → K → Ordering} where
  pub has-items : (s : Set R) (q : K) → has s q ≡ list_any (eq_by_cmp R q) (items s)
  has-items s q = finite.contains_key-keys s q

  -- a set lists its items in order
  pub items_rise : (s : Set R) → is_rising R (items s) ≡ true
  items_rise s = true_of _ (subst (λ es. T (finite.is_sorted R es)) (sym (marked-map (finite.entries s))) (finite.entries_sorted s))
    where
      marked-map : (es : List (K × Unit {0})) → marked (map (λ e. e.0) es) ≡ es
      marked-map [] = refl
      marked-map (e ∷ es) = ap (λ fs. e ∷ fs) (marked-map es)

module _ {K : Type 0} {R : K → K → Ordering} (o : IsTotalOrder R) where
  pub has-with : (s : Set R) (x q : K) → has (with s x) q ≡ (eq_by_cmp R q x || has s q)
  has-with s x q = ap is_some (finite.get-insert o s x tt q) ∙ some_or (eq_by_cmp R q x) (finite.get s q)
    where
      some_or : (b : Bool) (m : Option (Unit {0})) → is_some (cond b (Some tt) m) ≡ (b || is_some m)
      some_or true m = refl
      some_or false m = refl

  pub has_with_same : (s : Set R) (x : K) → has (with s x) x ≡ true
  has_with_same s x = has-with s x x ∙ ap (λ r. is_eq r || has s x) (tied_itself o x)

  pub has_with_kept : (s : Set R) (x q : K) → has s q ≡ true → has (with s x) q ≡ true
  has_with_kept s x q h = has-with s x q ∙ either_right _ _ h

  pub has-including : (s : Set R) (xs : List K) (q : K) → has (including s xs) q ≡ (has s q || list_any (eq_by_cmp R q) xs)
  has-including s [] q = sym (or_false (has s q))
  has-including s (x ∷ xs) q = has-with (including s xs) x q ∙ ap (λ b. eq_by_cmp R q x || b) (has-including s xs q) ∙ or_swap (eq_by_cmp R q x) (has s q) (list_any (eq_by_cmp R q) xs)

  pub has-of_list : (xs : List K) (q : K) → has (of_list {R = R} xs) q ≡ list_any (eq_by_cmp R q) xs
  has-of_list xs q = has-including empty xs q ∙ ap (λ b. b || list_any (eq_by_cmp R q) xs) (has-empty R q)

  pub has_of_list_item : (xs : List K) (q : K) → Contains xs q → has (of_list {R = R} xs) q ≡ true
  has_of_list_item xs q h = has-of_list xs q ∙ list_any-from_Contains (eq_by_cmp_equiv o) q xs h

  -- an item that is new makes the set longer by one
  pub length-with : (s : Set R) (x : K) → has s x ≡ false → length (items (with s x)) ≡ length (items s) + 1
  length-with s x h = sym (len-items (with s x)) ∙ finite.len-insert o s x tt ∙ ap (λ b. cond b (finite.len s) (finite.len s + 1)) h ∙ ap (λ n. n + 1) (len-items s)
    where
      length-map : {A B : Type 0} (f : A → B) (xs : List A) → length xs ≡ length (map f xs)
      length-map f [] = refl
      length-map f (x ∷ xs) = ap (λ n. suc n) (length-map f xs)

      len-items : (s : Set R) → finite.len s ≡ length (items s)
      len-items s = finite.len-entries s ∙ length-map (λ e. e.0) (finite.entries s)

module _ {K : Type 0} {R : K → K → Ordering} (o : IsTotalOrder R) (same : IsAntisymmetric R) where
  pub has-without : (s d : Set R) (q : K) → has (without s d) q ≡ (has s q && not (has d q))
  has-without s d q = ap is_some (finite.get-retain_keys s (λ x. not (has d x)) q (λ x e. ap (λ y. not (has d y)) (sym (same q x e)))) ∙ none_or (not (has d q)) (finite.get s q)
    where
      none_or : (b : Bool) (m : Option (Unit {0})) → is_some (cond b m None) ≡ (is_some m && b)
      none_or true None = refl
      none_or true (Some u) = refl
      none_or false None = refl
      none_or false (Some u) = refl

  pub has-edited : (s a d : Set R) (q : K) → has (edited s a d) q ≡ ((has s q && not (has d q)) || has a q)
  has-edited s a d q = has-including o (without s d) (items a) q ∙ (λ i. has-without s d q i || sym (has-items a q) i)

  pub has_item : (s : Set R) (q : K) → Contains (items s) q → has s q ≡ true
  has_item s q h = has-items s q ∙ list_any-from_Contains (eq_by_cmp_equiv o) q (items s) h

  pub item_of_has : (s : Set R) (q : K) → has s q ≡ true → Contains (items s) q
  item_of_has s q h = Contains-from_any (λ x y e. same x y (equal_of _ e)) q (items s) (sym (has-items s q) ∙ h)

  pub item_of_has_list : (xs : List K) (q : K) → has (of_list {R = R} xs) q ≡ true → Contains xs q
  item_of_has_list xs q h = Contains-from_any (λ x y e. same x y (equal_of _ e)) q xs (sym (has-of_list o xs q) ∙ h)

  -- an item at a place is in the set, and what is in the set has a place
  pub has_at : (s : Set R) (q : K) (i : ℕ) → slice_get (items s) i ≡ Some q → has s q ≡ true
  has_at s q i h = has_item s q (i, slice_get_within (items s) i q h, get_or_from_slice_get (items s) i q q h)

  pub place_of_has : (s : Set R) (q : K) → has s q ≡ true → (i : ℕ) × (slice_get (items s) i ≡ Some q)
  place_of_has s q h =
      let k = item_of_has s q h in
      (k.0, slice_get-get_or (items s) k.0 q k.1 ∙ ap Some k.2)

  -- the items at two places are in order, so no item has two places
  pub rises_at : (s : Set R) (x y : K) (i j : ℕ) → slice_get (items s) i ≡ Some x → slice_get (items s) j ≡ Some y → i < j → R x y ≡ Less
  rises_at s x y i j h k lt = walk (items s) i j (items_rise s) h k lt
    where
      walk : (xs : List K) (i j : ℕ) → is_rising R xs ≡ true → slice_get xs i ≡ Some x → slice_get xs j ≡ Some y → i < j → R x y ≡ Less
      walk [] i j r h k lt = cc
      walk (z ∷ zs) zero zero r h k lt = absurd (omega arith)
      walk (z ∷ zs) zero (suc j) r h k lt = let e : z ≡ x = cc in ap (λ w. R w y) (sym e) ∙ below zs j (both_left _ _ r) k
        where
          below : (zs : List K) (j : ℕ) → below_all R z (marked zs) ≡ true → slice_get zs j ≡ Some y → R z y ≡ Less
          below [] j b k = cc
          below (w ∷ ws) zero b k = let e : w ≡ y = cc in ap (R z) (sym e) ∙ less_of _ (both_left _ _ b)
          below (w ∷ ws) (suc j) b k = below ws j (both_right _ _ b) k
      walk (z ∷ zs) (suc i) zero r h k lt = absurd (omega arith)
      walk (z ∷ zs) (suc i) (suc j) r h k lt = walk zs i j (both_right _ _ r) h k (omega arith)

  pub one_place : (s : Set R) (x : K) (i j : ℕ) → slice_get (items s) i ≡ Some x → slice_get (items s) j ≡ Some x → i ≡ j
  one_place s x i j h k = at (lt_or_le i j) (lt_or_le j i)
    where
      never : R x x ≡ Less → ⊥
      never e = let t : Equal ≡ Less = sym (tied_itself o x) ∙ e in cc

      at : (i < j) ⊎ (j ≤ i) → (j < i) ⊎ (i ≤ j) → i ≡ j
      at (inl a) b = absurd (never (rises_at s x x i j h k a))
      at (inr a) (inl b) = absurd (never (rises_at s x x j i k h b))
      at (inr a) (inr b) = omega arith

  -- what is in the set of a list that rises
  pub of_rising_has : (xs : List K) (q : K) → is_rising R xs ≡ true → has (of_rising R xs) q ≡ true → Contains xs q
  of_rising_has xs q h e = Contains-from_any (λ x y e. same x y (equal_of _ e)) q xs (sym (has-of_rising R xs q h) ∙ e)

  pub has_of_rising : (xs : List K) (q : K) → is_rising R xs ≡ true → Contains xs q → has (of_rising R xs) q ≡ true
  has_of_rising xs q h c = has-of_rising R xs q h ∙ list_any-from_Contains (eq_by_cmp_equiv o) q xs c

  -- two sets are equal where the same items are in them
  pub same_set : (a b : Set R) → ((q : K) → has a q ≡ has b q) → a ≡ b
  same_set a b is = finite.same_map o same a b (λ q. got _ _ (is q))
    where
      got : (x y : Option (Unit {0})) → is_some x ≡ is_some y → x ≡ y
      got None None e = refl
      got None (Some u) e = cc
      got (Some u) None e = cc
      got (Some u) (Some v) e = refl

  pub same_within : (a b : Set R) → ((q : K) → IsTrue (has a q) → IsTrue (has b q)) → ((q : K) → IsTrue (has b q) → IsTrue (has a q)) → a ≡ b
  same_within a b there back = same_set a b (λ q. alike (has a q) (has b q) (there q) (back q))

  -- inserting an item that is there changes nothing
  pub with_present : (s : Set R) (x : K) → has s x ≡ true → with s x ≡ s
  with_present s x h = same_set _ _ (λ q. has-with o s x q ∙ at q (R q x) refl)
    where
      at : (q : K) (r : Ordering) → R q x ≡ r → (is_eq r || has s q) ≡ has s q
      at q Less e = refl
      at q Equal e = sym (ap (has s) (same q x e) ∙ h)
      at q Greater e = refl

  -- the order of insertions doesn't matter
  pub with_with : (s : Set R) (x y : K) → with (with s x) y ≡ with (with s y) x
  with_with s x y = same_set _ _ (λ q. has-with o (with s x) y q ∙ ap (λ b. eq_by_cmp R q y || b) (has-with o s x q) ∙ or_swap (eq_by_cmp R q y) (eq_by_cmp R q x) (has s q) ∙ sym (has-with o (with s y) x q ∙ ap (λ b. eq_by_cmp R q x || b) (has-with o s y q)))

  pub including-snoc : (s : Set R) (xs : List K) (y : K) → including s (xs ++ y ∷ []) ≡ with (including s xs) y
  including-snoc s [] y = refl
  including-snoc s (x ∷ xs) y = ap (λ t. with t x) (including-snoc s xs y) ∙ with_with (including s xs) y x

  -- nor does the order of the items of a list
  pub of_list-permutation : (xs ys : List K) → IsPermutation xs ys → of_list {R = R} ys ≡ of_list xs
  of_list-permutation xs ys h = same_within _ _
      (λ q e. has_of_list_item o xs q (Contains-permutation ys xs q (IsPermutation-sym xs ys h) (item_of_has_list ys q e)))
      (λ q e. has_of_list_item o ys q (Contains-permutation xs ys q h (item_of_has_list xs q e)))

  -- a sorted list without repeats rises, and is the set of the list
  module _ {E : K → K → Bool} (ties : (x y : K) → E x y ≡ eq_by_cmp R x y) (xs ys zs : List K) (moved : IsPermutation xs ys) (sorted : IsSorted R ys) (left : IsFiltered (DiffersFromLast E) [] ys zs) where
    once : zs ≡ dedup E ys
    once = dedup_is E ys zs left

    pub sorted_once_rises : is_rising R zs ≡ true
    sorted_once_rises = subst (λ us. is_rising R us ≡ true) (sym once) (rising_of_strict R (dedup E ys) (IsStrictlySortedBy-dedup o ties ys sorted))

    pub sorted_once : of_rising R zs ≡ of_list xs
    sorted_once = same_within _ _
        (λ q e. has_of_list_item o xs q (Contains-permutation ys xs q (IsPermutation-sym xs ys moved) (Contains-from_dedup E ys q (subst (λ us. Contains us q) once (of_rising_has zs q sorted_once_rises e)))))
        (λ q e. has_of_rising zs q sorted_once_rises (subst (λ us. Contains us q) (sym once) (Contains-dedup test (λ x y t. same x y (equal_of _ (sym (ties x y) ∙ t))) ys q (Contains-permutation xs ys q moved (item_of_has_list xs q e)))))
      where
        test : IsEquivalence E
        test = subst IsEquivalence (sym (fun_ext (λ x. fun_ext (λ y. ties x y)))) (eq_by_cmp_equiv o)

  -- the items without those of d
  pub items-without : (s d : Set R) → items (without s d) ≡ filter (λ x. not (has d x)) (items s)
  items-without s d = sym (ap items equal) ∙ items-of_rising R (filter kept (items s)) rises
    where
      kept : K → Bool
      kept x = not (has d x)

      rises : is_rising R (filter kept (items s)) ≡ true
      rises = rising-filter R kept (items s) (items_rise s)

      equal : of_rising R (filter kept (items s)) ≡ without s d
      equal = same_within _ _ (λ q e. there q (filter_in kept (items s) q (of_rising_has (filter kept (items s)) q rises e))) (λ q e. back q (sym (has-without s d q) ∙ e))
        where
          there : (q : K) → Contains (items s) q × (kept q ≡ true) → has (without s d) q ≡ true
          there q k = has-without s d q ∙ both_true (has s q) (kept q) (has_item s q k.0) k.1

          back : (q : K) → (has s q && kept q) ≡ true → has (of_rising R (filter kept (items s))) q ≡ true
          back q e = has_of_rising (filter kept (items s)) q rises (in_filter kept (items s) q (item_of_has s q (both_left (has s q) (kept q) e)) (both_right (has s q) (kept q) e))

  -- a set is that of its items
  pub of_rising-items : (s : Set R) → of_rising R (items s) ≡ s
  of_rising-items s = sets.of_rising-items R s (items_rise s)

  -- the set of the items of s without d, and then of those of a
  pub of_list-edited : (s a d : Set R) → of_list (items (without s d) ++ items a) ≡ edited s a d
  of_list-edited s a d = same_set _ _ (λ q. has-of_list o (items (without s d) ++ items a) q ∙ list_any-append (eq_by_cmp R q) (items (without s d)) (items a) ∙ (λ i. sym (has-items (without s d) q) i || sym (has-items a q) i)
      ∙ (λ i. has-without s d q i || has a q) ∙ sym (has-edited s a d q))

  pub of_list-items : (s : Set R) → of_list (items s) ≡ s
  of_list-items s = same_set _ _ (λ q. has-of_list o (items s) q ∙ sym (has-items s q))
