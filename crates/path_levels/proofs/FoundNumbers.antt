-- A binary search in numbers that rise finds what they have.
use Rattle.std.proofs.Common.{◌≡◌, ◌⊎◌, inl, inr, ℕ, ◌+◌, ◌<◌, ◌≤◌, Bool, true, false, List, length, get_or, Contains, Some, slice_get, Result, Ok, Err, refl, sym, ap, ◌∙◌, subst, arith}
use Rattle.std.specs.Prelude.{is_ok}
use Rattle.std.specs.Ordering.{nat_cmp}
use Rattle.std.specs.List.Sorted.{IsStrictlyIncreasing, IsBinarySearchResult}
use Rattle.std.proofs.lemmas.List.Sorted.{searched}
use Rattle.std.proofs.lemmas.Bool.{cases_lt}
use Rattle.std.proofs.lemmas.Map.Keys.{below_from_sorted, sorted_from_strictly_increasing}
use Rattle.std.proofs.lemmas.Option.{slice_get-get_or, get_or_from_slice_get}
use Rattle.path_levels.proofs.Choices.{has_number, number_in, in_number}

module _ (xs : List ℕ) (rises : IsStrictlyIncreasing xs) where
  not_falling : (i j : ℕ) → i ≤ j → j < length xs → get_or xs i 0 ≤ get_or xs j 0
  not_falling i j le l = at (cases_lt i j)
    where
      at : (i < j) ⊎ (j ≤ i) → get_or xs i 0 ≤ get_or xs j 0
      at (inl lt) = let b = below_from_sorted xs i j 0 (sorted_from_strictly_increasing xs rises) lt l in omega (arith, b)
      at (inr ge) = let e : i ≡ j = omega (arith, le, ge) in subst (λ m. get_or xs i 0 ≤ get_or xs m 0) e (omega arith)

  pub search_is : (x : ℕ) (r : Result ℕ ℕ) (b : Bool) → IsBinarySearchResult (λ y. nat_cmp y x) xs r → b ≡ is_ok r → b ≡ has_number xs x
  search_is x (Ok i) b h e =
      let s = searched xs x (Ok i) h not_falling in
      e ∙ sym (in_number xs x (i, s.0, get_or_from_slice_get xs i x x (slice_get-get_or xs i 0 s.0 ∙ ap Some s.1)))
  search_is x (Err i) b h e = e ∙ sym (none (has_number xs x) refl)
    where
      at : (k : ℕ) → k < length xs → get_or xs k 0 ≡ x → (k < i) ⊎ (i ≤ k) → ⊥
      at k l f (inl m) = let s = searched xs x (Err i) h not_falling in let low = s.1 k m in omega (arith, low, f)
      at k l f (inr g) = let s = searched xs x (Err i) h not_falling in let high = s.2 k g l in omega (arith, high, f)

      absent : Contains xs x → ⊥
      absent c =
          let read : get_or xs c.0 0 ≡ x = get_or_from_slice_get xs c.0 x 0 (slice_get-get_or xs c.0 x c.1 ∙ ap Some c.2) in
          at c.0 c.1 read (cases_lt c.0 i)

      none : (t : Bool) → has_number xs x ≡ t → t ≡ false
      none true f = absurd (absent (number_in xs x f))
      none false f = refl
