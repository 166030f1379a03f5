-- The part of a sorted list where a key ties, as two partition points give it.
use Rattle.std.proofs.Common.{◌≡◌, ℕ, zero, suc, ◌+◌, ◌-◌, ◌<◌, ◌≤◌, true, false, cond, ◌⊎◌, inl, inr, List, [], ◌∷◌, length, take, drop, refl, sym, ap, ◌∙◌, subst, arith}
use Rattle.std.specs.declared.cmp.Ordering.{Ordering}
use Rattle.std.specs.Ordering.{is_lt, is_le, is_eq, ordering_index}
use Rattle.std.specs.List.{filter}
use Rattle.std.specs.List.Sorted.{IsPartitionPoint, IsPartitionedBy, IsNonDecreasingBy}
use Rattle.rdf_terms.proofs.Orders.{lt_or_le, lt_down, le_down, not_both, equal_not_less, equal_not_greater, equal_between}

abbrev pub AreBelow : {X : Type 0} → (X → Ordering) → List X → ℕ → Type 0
AreBelow k xs i = IsPartitionPoint (λ y. is_lt (k y) ≡ true) (λ y. is_lt (k y) ≡ false) xs i

abbrev pub AreUpTo : {X : Type 0} → (X → Ordering) → List X → ℕ → Type 0
AreUpTo k xs j = IsPartitionPoint (λ y. is_le (k y) ≡ true) (λ y. is_le (k y) ≡ false) xs j

module _ {X : Type 0} (k : X → Ordering) where
  -- a key that doesn't fall parts the list at each of its two ends
  pub below_parts : (xs : List X) → IsNonDecreasingBy (λ y. ordering_index (k y)) xs → IsPartitionedBy (λ y. is_lt (k y)) xs
  below_parts xs h i j d le lt e = lt_down _ _ (h i j d le lt) e

  pub up_to_parts : (xs : List X) → IsNonDecreasingBy (λ y. ordering_index (k y)) xs → IsPartitionedBy (λ y. is_le (k y)) xs
  up_to_parts xs h i j d le lt e = le_down _ _ (h i j d le lt) e

  pub ends_ordered : (xs : List X) (i j : ℕ) → i ≤ length xs → AreBelow k xs i → AreUpTo k xs j → i ≤ j
  ends_ordered [] i j b below up = omega arith
  ends_ordered (x ∷ xs) i j b below up = split (lt_or_le j i)
    where
      split : (j < i) ⊎ (i ≤ j) → i ≤ j
      split (inl lt) = absurd (not_both _ (below.0 j x (omega arith) lt) (up.1 j x (omega arith) (omega arith)))
      split (inr le) = le

  tail_below : (x : X) (xs : List X) (i : ℕ) → AreBelow k (x ∷ xs) (suc i) → AreBelow k xs i
  tail_below x xs i h = (λ n d low high. h.0 (suc n) d (omega arith) (omega arith), λ n d low high. h.1 (suc n) d (omega arith) (omega arith))

  tail_upto : (x : X) (xs : List X) (i : ℕ) → AreUpTo k (x ∷ xs) (suc i) → AreUpTo k xs i
  tail_upto x xs i h = (λ n d low high. h.0 (suc n) d (omega arith) (omega arith), λ n d low high. h.1 (suc n) d (omega arith) (omega arith))

  tail_below_zero : (x : X) (xs : List X) → AreBelow k (x ∷ xs) 0 → AreBelow k xs 0
  tail_below_zero x xs h = (λ n d low high. absurd (omega arith), λ n d low high. h.1 (suc n) d (omega arith) (omega arith))

  tail_upto_zero : (x : X) (xs : List X) → AreUpTo k (x ∷ xs) 0 → AreUpTo k xs 0
  tail_upto_zero x xs h = (λ n d low high. absurd (omega arith), λ n d low high. h.1 (suc n) d (omega arith) (omega arith))

  taken : (xs : List X) (j : ℕ) → AreBelow k xs 0 → AreUpTo k xs j → take j xs ≡ filter (λ y. is_eq (k y)) xs
  taken [] zero below up = refl
  taken [] (suc j) below up = refl
  taken (x ∷ xs) zero below up =
      taken xs 0 (tail_below_zero x xs below) (tail_upto_zero x xs up)
      ∙ ap (λ b. cond b (x ∷ filter (λ y. is_eq (k y)) xs) (filter (λ y. is_eq (k y)) xs)) (sym (equal_not_greater _ (up.1 0 x (omega arith) (omega arith))))
  taken (x ∷ xs) (suc j) below up =
      ap (λ ys. x ∷ ys) (taken xs j (tail_below_zero x xs below) (tail_upto x xs j up))
      ∙ ap (λ b. cond b (x ∷ filter (λ y. is_eq (k y)) xs) (filter (λ y. is_eq (k y)) xs)) (sym (equal_between _ (below.1 0 x (omega arith) (omega arith)) (up.0 0 x (omega arith) (omega arith))))

  part : (xs : List X) (i n : ℕ) → i ≤ length xs → AreBelow k xs i → AreUpTo k xs (i + n) → take n (drop i xs) ≡ filter (λ y. is_eq (k y)) xs
  part xs zero n b below up = let e : 0 + n ≡ n = omega arith in taken xs n below (subst (λ m. AreUpTo k xs m) e up)
  part [] (suc i) n b below up = absurd (omega arith)
  part (x ∷ xs) (suc i) n b below up =
      let e : suc i + n ≡ suc (i + n) = omega arith in
      part xs i n (omega arith) (tail_below x xs i below) (tail_upto x xs (i + n) (subst (λ m. AreUpTo k (x ∷ xs) m) e up))
      ∙ ap (λ b. cond b (x ∷ filter (λ y. is_eq (k y)) xs) (filter (λ y. is_eq (k y)) xs)) (sym (equal_not_less _ (below.0 0 x (omega arith) (omega arith))))

  -- the part between the two ends is what ties
  pub part_is : (xs : List X) (i j : ℕ) → i ≤ length xs → AreBelow k xs i → AreUpTo k xs j → take (j - i) (drop i xs) ≡ filter (λ y. is_eq (k y)) xs
  part_is xs i j b below up =
      let le = ends_ordered xs i j b below up in
      let e : j ≡ i + (j - i) = omega arith in
      part xs i (j - i) b below (subst (λ m. AreUpTo k xs m) e up)
