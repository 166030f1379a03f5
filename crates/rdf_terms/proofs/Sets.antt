-- Sets as lists that rise: what a binary search of the list says of the set.
use Rattle.std.proofs.Common.{◌≡◌, ℕ, zero, suc, ◌+◌, ◌<◌, ◌≤◌, Bool, true, false, cond, ◌||◌, T, List, [], ◌∷◌, map, length, slice_get, slice_index_or, Some, Result, Ok, Err, IfOk, IfErr, refl, sym, ap, ◌∙◌, subst, arith, ◌⊎◌, inl, inr}
use Rattle.std.specs.declared.cmp.Ordering.{Ordering}
use Rattle.std.specs.declared.cmp.Ordering.TheVariants.{Less, Equal, Greater}
use Rattle.std.specs.Ordering.{is_lt, is_eq, ordering_reverse, eq_by_cmp, ordering_index}
use Rattle.std.specs.Cmp.{IsTotalOrder}
use Rattle.std.specs.List.{insert, filter, list_any, HoldsAt, AllByRecursion, IsDistinct}
use Rattle.std.specs.List.Sorted.{IsPartitionPoint, IsSearchInRange, IsBinarySearchResult, IsSortedBy, IsNonDecreasingBy, IsStrictlySortedBy}
use Rattle.std.proofs.lemmas.List.Sorted.{searchable_from_sorted}
use Rattle.std.specs.FinMap as finite
use Rattle.std.specs.FinMap.{IsAntisymmetric}
use Rattle.std.specs.FinMap.Entries.{is_sorted-put, is_sorted-where_key, below_all}
use Rattle.std.proofs.lemmas.Map.Keys.{apart_from_distinct}
use Rattle.rdf_terms.proofs.Bools.{T_of, true_of, both_left, both_right, both_true}
use Rattle.rdf_terms.proofs.Orders.{lt_or_le, less_of}
use Rattle.rdf_terms.specs.Set.{Set, marked, is_rising, of_rising, items, has, with, empty}

module _ {K : Type 0} where
  pub keys-marked : (xs : List K) → map (λ e. e.0) (marked xs) ≡ xs
  keys-marked [] = refl
  keys-marked (x ∷ xs) = ap (λ ys. x ∷ ys) (keys-marked xs)

module _ {K : Type 0} (R : K → K → Ordering) where
  pub items-of_rising : (xs : List K) → is_rising R xs ≡ true → items (of_rising R xs) ≡ xs
  items-of_rising xs h = ap (map (λ e. e.0)) (finite.entries-from_sorted R (marked xs) (T_of _ h)) ∙ keys-marked xs

  pub has-of_rising : (xs : List K) (q : K) → is_rising R xs ≡ true → has (of_rising R xs) q ≡ list_any (eq_by_cmp R q) xs
  has-of_rising xs q h = finite.contains_key-keys (of_rising R xs) q ∙ ap (list_any (eq_by_cmp R q)) (items-of_rising xs h)

  marked-filter : (p : K → Bool) (xs : List K) → filter (λ e. p e.0) (marked xs) ≡ marked (filter p xs)
  marked-filter p [] = refl
  marked-filter p (x ∷ xs) = by (marked-filter p xs) (p x)
    where
      by : filter (λ e. p e.0) (marked xs) ≡ marked (filter p xs) → (b : Bool) → cond b ((x, tt) ∷ filter (λ e. p e.0) (marked xs)) (filter (λ e. p e.0) (marked xs)) ≡ marked (cond b (x ∷ filter p xs) (filter p xs))
      by rest true = ap (λ es. (x, tt) ∷ es) rest
      by rest false = rest

  -- what is left of a list that rises does so too
  pub rising-filter : (p : K → Bool) (xs : List K) → is_rising R xs ≡ true → is_rising R (filter p xs) ≡ true
  rising-filter p xs h = true_of _ (subst (λ es. T (finite.is_sorted R es)) (marked-filter p xs) (is_sorted-where_key R p (marked xs) (T_of _ h)))

  pub of_rising-items : (s : Set R) → is_rising R (items s) ≡ true → of_rising R (items s) ≡ s
  of_rising-items s h = finite.same_entries_map _ _ (finite.entries-from_sorted R (marked (items s)) (T_of _ h) ∙ marked-keys (finite.entries s))
    where
      marked-keys : (es : List (K × Unit {0})) → marked (map (λ e. e.0) es) ≡ es
      marked-keys [] = refl
      marked-keys (e ∷ es) = ap (λ fs. e ∷ fs) (marked-keys es)

  -- std's word for the same
  pub rising_of_strict : (xs : List K) → IsStrictlySortedBy R xs → is_rising R xs ≡ true
  unfolding IsStrictlySortedBy
  rising_of_strict [] h = refl
  rising_of_strict (x ∷ xs) h = both_true _ _ (below xs h.0) (rising_of_strict xs h.1)
    where
      below : (ys : List K) → AllByRecursion (λ y. R x y ≡ Less) ys → below_all R x (marked ys) ≡ true
      below [] b = refl
      below (y ∷ ys) b = both_true _ _ (ap is_lt b.0) (below ys b.1)

  -- the first item is below the one at k
  first_below : (x : K) (xs : List K) (k : ℕ) (d : K) → k < length xs → below_all R x (marked xs) ≡ true → R x (slice_index_or xs k d) ≡ Less
  first_below x [] k d lt h = absurd (omega arith)
  first_below x (y ∷ xs) zero d lt h = less_of _ (both_left _ _ h)
  first_below x (y ∷ xs) (suc k) d lt h = first_below x xs k d (omega arith) (both_right _ _ h)

module _ {K : Type 0} {R : K → K → Ordering} (o : IsTotalOrder R) where
  turned : (x y : K) → R x y ≡ Less → R y x ≡ Greater
  turned x y e = o.antisymm y x ∙ ap ordering_reverse e

  turned_back : (x y : K) → R x y ≡ Greater → R y x ≡ Less
  turned_back x y e = o.antisymm y x ∙ ap ordering_reverse e

  below_more : (x y : K) (xs : List K) → R x y ≡ Less → below_all R y (marked xs) ≡ true → below_all R x (marked xs) ≡ true
  below_more x y [] e h = refl
  below_more x y (z ∷ zs) e h = both_true _ _ (ap is_lt (o.trans x y z e (less_of _ (both_left _ _ h)))) (below_more x y zs e (both_right _ _ h))

  -- a list rises where each item is below the next
  pub rising_of_neighbours : (xs : List K) → ((k : ℕ) (d : K) → k + 1 < length xs → R (slice_index_or xs k d) (slice_index_or xs (k + 1) d) ≡ Less) → is_rising R xs ≡ true
  rising_of_neighbours [] h = refl
  rising_of_neighbours (x ∷ []) h = refl
  rising_of_neighbours (x ∷ y ∷ ys) h =
      let rest = rising_of_neighbours (y ∷ ys) (λ k d lt. subst (λ n. R (slice_index_or (y ∷ ys) k d) (slice_index_or (x ∷ y ∷ ys) n d) ≡ Less) (suc_next k) (h (suc k) d (omega arith))) in
      let e = h 0 x (omega arith) in
      both_true _ _ (both_true _ _ (ap is_lt e) (below_more x y ys e (both_left _ _ rest))) rest
    where
      suc_next : (k : ℕ) → suc k + 1 ≡ suc (k + 1)
      suc_next k = omega arith

  -- a sorted list rises where no item ties with a later one
  pub rising_of_distinct : (xs : List K) → IsSortedBy (λ a b. is_lt (R a b)) xs → IsDistinct (eq_by_cmp R) xs → is_rising R xs ≡ true
  rising_of_distinct xs sorted distinct = rising_of_neighbours xs (λ k d lt. by _ _ (o.antisymm (slice_index_or xs k d) (slice_index_or xs (k + 1) d)) (sorted k d (omega arith) lt) (apart_from_distinct (eq_by_cmp R) xs k (k + 1) d distinct (omega arith) lt))
    where
      by : (a b : Ordering) → a ≡ ordering_reverse b → is_lt b ≡ false → is_eq a ≡ false → a ≡ Less
      by a Less e f g = cc
      by a Equal e f g = let t : is_eq Equal ≡ false = ap is_eq (sym e) ∙ g in cc
      by a Greater e f g = e

  -- each item is below each later one
  pub rising_pairs : (xs : List K) → is_rising R xs ≡ true → (i j : ℕ) (d : K) → i < j → j < length xs → R (slice_index_or xs i d) (slice_index_or xs j d) ≡ Less
  rising_pairs [] h i j d lt within = absurd (omega arith)
  rising_pairs (x ∷ xs) h i zero d lt within = absurd (omega arith)
  rising_pairs (x ∷ xs) h zero (suc j) d lt within = first_below R x xs j d (omega arith) (both_left _ _ h)
  rising_pairs (x ∷ xs) h (suc i) (suc j) d lt within = rising_pairs xs (both_right _ _ h) i j d (omega arith) (omega arith)

  pub rising_sorted : (xs : List K) → is_rising R xs ≡ true → IsSortedBy (λ a b. is_lt (R a b)) xs
  rising_sorted xs h k d low high = next xs k d (omega arith) h
    where
      next : (xs : List K) (k : ℕ) (d : K) → k + 1 < length xs → is_rising R xs ≡ true → is_lt (R (slice_index_or xs (k + 1) d) (slice_index_or xs k d)) ≡ false
      next [] k d lt h = absurd (omega arith)
      next (x ∷ xs) zero d lt h = ap is_lt (turned x _ (first_below R x xs 0 d (omega arith) (both_left _ _ h)))
      next (x ∷ xs) (suc k) d lt h = let e : suc k + 1 ≡ suc (k + 1) = omega arith in rw e (next xs k d (omega arith) (both_right _ _ h))

  pub rising_searchable : (xs : List K) (q : K) → is_rising R xs ≡ true → IsNonDecreasingBy (λ y. ordering_index (R y q)) xs
  rising_searchable xs q h = searchable_from_sorted o (λ x. x) xs q (rising_sorted xs h)

  tie_back : (x y : K) → R x y ≡ Equal → R y x ≡ Equal
  tie_back x y e = o.antisymm y x ∙ ap ordering_reverse e

  pub found : IsAntisymmetric R → (xs : List K) (q : K) (i : ℕ) → i < length xs → HoldsAt (λ y. R y q ≡ Equal) xs i → slice_get xs i ≡ Some q
  found same [] q i lt h = absurd (omega arith)
  found same (x ∷ xs) q zero lt h = ap Some (same x q (h x))
  found same (x ∷ xs) q (suc i) lt h = found same xs q i (omega arith) h

  none_of : (xs : List K) (q : K) → ((k : ℕ) (d : K) → k < length xs → is_eq (R q (slice_index_or xs k d)) ≡ false) → list_any (eq_by_cmp R q) xs ≡ false
  none_of [] q h = refl
  none_of (x ∷ xs) q h =
      ap (λ b. b || list_any (eq_by_cmp R q) xs) (h 0 x (omega arith)) ∙ none_of xs q (λ k d lt. h (suc k) d (omega arith))

  pub missing : (xs : List K) (q : K) (i : ℕ) → IsPartitionPoint (λ y. R y q ≡ Less) (λ y. R y q ≡ Greater) xs i → list_any (eq_by_cmp R q) xs ≡ false
  missing xs q i h = none_of xs q (λ k d lt. split k d lt (lt_or_le k i))
    where
      split : (k : ℕ) (d : K) → k < length xs → (k < i) ⊎ (i ≤ k) → is_eq (R q (slice_index_or xs k d)) ≡ false
      split k d lt (inl a) = ap is_eq (turned _ q (h.0 k d (omega arith) a))
      split k d lt (inr b) = ap is_eq (turned_back _ q (h.1 k d b lt))

  pub put_at : (xs : List K) (q : K) (i : ℕ) → IsPartitionPoint (λ y. R y q ≡ Less) (λ y. R y q ≡ Greater) xs i → finite.put R q tt (marked xs) ≡ marked (insert xs i q)
  put_at [] q zero h = refl
  put_at [] q (suc i) h = refl
  put_at (x ∷ xs) q zero h = rw (turned_back x q (h.1 0 x (omega arith) (omega arith)))
  put_at (x ∷ xs) q (suc i) h =
      rw (turned x q (h.0 0 x (omega arith) (omega arith))) (ap (λ es. (x, tt) ∷ es) (put_at xs q i (λ k d low high. h.0 (suc k) d (omega arith) (omega arith), λ k d low high. h.1 (suc k) d (omega arith) (omega arith))))

  pub inserted_rises : (xs : List K) (q : K) (i : ℕ) → is_rising R xs ≡ true → IsPartitionPoint (λ y. R y q ≡ Less) (λ y. R y q ≡ Greater) xs i → is_rising R (insert xs i q) ≡ true
  inserted_rises xs q i rises h = true_of _ (subst (λ es. T (finite.is_sorted R es)) (put_at xs q i h) (is_sorted-put R o q tt (marked xs) (T_of _ rises)))

  pub inserted : (xs : List K) (q : K) (i : ℕ) → is_rising R xs ≡ true → IsPartitionPoint (λ y. R y q ≡ Less) (λ y. R y q ≡ Greater) xs i → of_rising R (insert xs i q) ≡ with (of_rising R xs) q
  inserted xs q i rises h =
      let old = finite.entries-from_sorted R (marked xs) (T_of _ rises) in
      let new = finite.entries-from_sorted R (marked (insert xs i q)) (T_of _ (inserted_rises xs q i rises h)) in
      finite.same_entries_map _ _ (new ∙ sym (finite.entries-insert o (of_rising R xs) q tt ∙ ap (finite.put R q tt) old ∙ put_at xs q i h))

pub of_rising-empty : {K : Type 0} (R : K → K → Ordering) → of_rising R [] ≡ empty
of_rising-empty R = finite.empty_of_len _ (finite.len-entries _ ∙ ap length (finite.entries-from_sorted R [] tt))

pub get_at : {K : Type 0} (xs : List K) (i : ℕ) (x : K) → i < length xs → x ≡ slice_index_or xs i x → slice_get xs i ≡ Some x
get_at [] i x lt e = absurd (omega arith)
get_at (y ∷ xs) zero x lt e = ap Some (sym e)
get_at (y ∷ xs) (suc i) x lt e = get_at xs i x (omega arith) e

-- what a binary search says of the list that it searched
module _ {K : Type 0} {R : K → K → Ordering} (o : IsTotalOrder R) (same : IsAntisymmetric R) where
  pub searched_found : (xs ys : List K) (q : K) (r : Result ℕ ℕ) → ys ≡ xs → IsSearchInRange r (length ys) → IfOk r (HoldsAt (λ y. R y q ≡ Equal) ys) → IfOk r (λ i. slice_get xs i ≡ Some q)
  searched_found xs ys q (Ok i) e b h = subst (λ zs. slice_get zs i ≡ Some q) e (found o same ys q i b h)
  searched_found xs ys q (Err i) e b h = tt

  pub searched_place : (xs ys : List K) (q : K) (r : Result ℕ ℕ) → ys ≡ xs → is_rising R ys ≡ true → IsBinarySearchResult (λ y. R y q) ys r → IfErr r (λ i. IsPartitionPoint (λ y. R y q ≡ Less) (λ y. R y q ≡ Greater) xs i)
  searched_place xs ys q (Ok i) e s h = tt
  searched_place xs ys q (Err i) e s h = subst (λ zs. IsPartitionPoint (λ y. R y q ≡ Less) (λ y. R y q ≡ Greater) zs i) e (h (rising_searchable o ys q s))

  -- of a set by its items
  pub has_none : (s : Set R) (q : K) (i : ℕ) → IsPartitionPoint (λ y. R y q ≡ Less) (λ y. R y q ≡ Greater) (items s) i → has s q ≡ false
  has_none s q i h = finite.contains_key-keys s q ∙ missing o (items s) q i h

pub searched_within : {K : Type 0} (xs ys : List K) (r : Result ℕ ℕ) → ys ≡ xs → IsSearchInRange r (length ys) → IfErr r (λ i. i ≤ length xs)
searched_within xs ys (Ok i) e b = tt
searched_within xs ys (Err i) e b = subst (λ zs. i ≤ length zs) e b

-- a list rises as its items do
pub rising-map : {K L : Type 0} (R : K → K → Ordering) (S : L → L → Ordering) (f : K → L) → ((x y : K) → R x y ≡ Less → S (f x) (f y) ≡ Less) → (xs : List K) → is_rising R xs ≡ true → is_rising S (map f xs) ≡ true
rising-map R S f rises [] h = refl
rising-map {K} R S f rises (x ∷ xs) h = both_true _ _ (below xs (both_left _ _ h)) (rising-map R S f rises xs (both_right _ _ h))
  where
    below : (ys : List K) → below_all R x (marked ys) ≡ true → below_all S (f x) (marked (map f ys)) ≡ true
    below [] b = refl
    below (y ∷ ys) b = both_true _ _ (ap is_lt (rises x y (less_of _ (both_left _ _ b)))) (below ys (both_right _ _ b))
