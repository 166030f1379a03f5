-- Terms by ascending numbers.
use Rattle.std.proofs.Common.{◌≡◌, ℕ, ◌<◌, ◌≤◌, List, [], length, get_or, Contains, Some, None, Option, slice_get, Result, Ok, Err, Bool, refl, sym, ap, ◌∙◌, subst, ◌⊎◌, inl, inr, arith}
use Rattle.std.specs.Prelude.{option_map, is_ok}
use Rattle.std.specs.Ordering.{nat_cmp}
use Rattle.std.specs.List.Sorted.{IsStrictlyIncreasing, IsBinarySearchResult}
use Rattle.std.proofs.lemmas.List.Sorted.{searched}
use Rattle.std.proofs.lemmas.Bool.{cases_lt}
use Rattle.std.proofs.lemmas.Map.Keys.{below_from_sorted, sorted_from_strictly_increasing}
use Rattle.std.proofs.lemmas.Option.{slice_get-map, slice_get-get_or, slice_get_within, get_or_from_slice_get}
use Rattle.rdf_terms.specs.declared.term.Term.{Term}
use Rattle.rdf_terms.specs.declared.term.Term.TheVariants.{Literal}
use Rattle.rdf_terms.specs.Nodes.{Nodes, terms}
use Rattle.rdf_terms.proofs.NodesLaws.{one_place_of_term}
use Rattle.rdf_navigation.specs.Numbers.{term_at}
use Rattle.rdf_navigation.proofs.PropertyLaws.{same_some, not_missing}
use Rattle.path_eval.specs.Numbered.{terms_at, AreNumbers}
use Rattle.core_constraints.specs.Decisions.{Says}
use Rattle.core_constraints.proofs.Decided.{Distinct, in_at, in_place}

number_listed : (n : Nodes) (is : List ℕ) (j : ℕ) (y : Term) → slice_get (terms_at n is) j ≡ Some y → (a : ℕ) × (slice_get is j ≡ Some a) × (term_at n a ≡ y)
number_listed n is j y e = at (slice_get is j) refl (sym (slice_get-map (term_at n) is j) ∙ e)
  where
    at : (o : Option ℕ) → slice_get is j ≡ o → option_map (term_at n) o ≡ Some y → (a : ℕ) × (slice_get is j ≡ Some a) × (term_at n a ≡ y)
    at None f g = absurd (not_missing y g)
    at (Some a) f g = (a, f, same_some g)

pub term_place : (n : Nodes) (a : ℕ) → a < length (terms n) → slice_get (terms n) a ≡ Some (term_at n a)
term_place n a l = slice_get-get_or (terms n) a (Literal [] [] None) l

-- ascending numbers are distinct
pub distinct_numbers : (is : List ℕ) → IsStrictlyIncreasing is → Distinct is
distinct_numbers is rises j k a e f = at (cases_lt j k) (cases_lt k j)
  where
    read : (i : ℕ) → slice_get is i ≡ Some a → get_or is i 0 ≡ a
    read i g = get_or_from_slice_get is i a 0 g

    less : (i m : ℕ) → slice_get is i ≡ Some a → slice_get is m ≡ Some a → i < m → ⊥
    less i m g h l =
        let b = below_from_sorted is i m 0 (sorted_from_strictly_increasing is rises) l (slice_get_within is m a h) in
        let x = read i g in
        let y = read m h in
        omega (arith, b, x, y)

    at : (j < k) ⊎ (k ≤ j) → (k < j) ⊎ (j ≤ k) → j ≡ k
    at (inl l) _ = absurd (less j k e f l)
    at (inr g) (inl l) = absurd (less k j f e l)
    at (inr g) (inr h) = omega (arith, g, h)

-- so are their terms
pub distinct_terms : (n : Nodes) (is : List ℕ) → AreNumbers n is → IsStrictlyIncreasing is → Distinct (terms_at n is)
distinct_terms n is within rises j k y e f =
    let a = number_listed n is j y e in
    let b = number_listed n is k y f in
    let at_a : slice_get (terms n) a.0 ≡ Some y = term_place n a.0 (within a.0 (in_at is j a.0 a.1)) ∙ ap Some a.2 in
    let at_b : slice_get (terms n) b.0 ≡ Some y = term_place n b.0 (within b.0 (in_at is k b.0 b.1)) ∙ ap Some b.2 in
    let same : b.0 ≡ a.0 = one_place_of_term n y b.0 a.0 at_b at_a in
    distinct_numbers is rises j k a.0 a.1 (subst (λ m. slice_get is k ≡ Some m) same b.1)

-- a binary search in ascending numbers finds what they have
module _ (xs : List ℕ) (rises : IsStrictlyIncreasing xs) where
  not_falling : (i j : ℕ) → i ≤ j → j < length xs → get_or xs i 0 ≤ get_or xs j 0
  not_falling i j le l = at (cases_lt i j)
    where
      at : (i < j) ⊎ (j ≤ i) → get_or xs i 0 ≤ get_or xs j 0
      at (inl lt) = let b = below_from_sorted xs i j 0 (sorted_from_strictly_increasing xs rises) lt l in omega (arith, b)
      at (inr ge) = let e : i ≡ j = omega (arith, le, ge) in subst (λ m. get_or xs i 0 ≤ get_or xs m 0) e (omega arith)

  pub search_says : (x : ℕ) (r : Result ℕ ℕ) (b : Bool) → IsBinarySearchResult (λ y. nat_cmp y x) xs r → b ≡ is_ok r → Says b (Contains xs x)
  search_says x (Ok i) b h e =
      let s = searched xs x (Ok i) h not_falling in
      subst (λ (b : Bool). Says b (Contains xs x)) (sym e) (in_at xs i x (slice_get-get_or xs i 0 s.0 ∙ ap Some s.1))
  search_says x (Err i) b h e = subst (λ (b : Bool). Says b (Contains xs x)) (sym e) absent
    where
      at : (k : ℕ) → slice_get xs k ≡ Some x → (k < i) ⊎ (i ≤ k) → ⊥
      at k f (inl l) = let s = searched xs x (Err i) h not_falling in let low = s.1 k l in let is = get_or_from_slice_get xs k x 0 f in omega (arith, low, is)
      at k f (inr g) = let s = searched xs x (Err i) h not_falling in let high = s.2 k g (slice_get_within xs k x f) in let is = get_or_from_slice_get xs k x 0 f in omega (arith, high, is)

      absent : ¬ (Contains xs x)
      absent c = let p = in_place xs x c in at p.0 p.1 (cases_lt p.0 i)
