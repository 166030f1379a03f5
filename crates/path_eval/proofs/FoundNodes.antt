-- The nodes that a search found, in order.
use Rattle.std.proofs.Common.{◌≡◌, ◌↔◌, ◌⊎◌, inl, inr, ℕ, ◌+◌, ◌<◌, eqb, List, [], ◌∷◌, ◌++◌, take, length, get_or, Contains, sym, ap, subst}
use Rattle.std.specs.Ordering.{nat_cmp}
use Rattle.std.specs.List.Retain.{IsFiltered, DiffersFromLast}
use Rattle.std.specs.List.Sorted.{IsPermutation, IsSorted, IsStrictlyIncreasing}
use Rattle.std.specs.List.{dedup}
use Rattle.std.proofs.lemmas.List.Filters.{dedup_is}
use Rattle.std.proofs.lemmas.List.Kept.{Contains-from_dedup, Contains-dedup_nat}
use Rattle.std.proofs.lemmas.List.Sorted.{Contains-permutation, IsPermutation-sym}
use Rattle.std.proofs.lemmas.Map.Keys.{IsStrictlyIncreasing-dedup}
use Rattle.rdf_terms.proofs.Members.{take_next}
use Rattle.path_eval.specs.declared.visits.Visit.{Visit}
use Rattle.path_eval.proofs.LinkLaws.{in_push}

pub sorted_rises : (xs ys zs : List ℕ) → IsSorted nat_cmp ys → IsFiltered (DiffersFromLast eqb) [] ys zs → IsStrictlyIncreasing zs
sorted_rises xs ys zs sorted once = subst IsStrictlyIncreasing (sym (dedup_is eqb ys zs once)) (IsStrictlyIncreasing-dedup ys sorted)

pub sorted_has : (xs ys zs : List ℕ) → IsPermutation xs ys → IsFiltered (DiffersFromLast eqb) [] ys zs → (i : ℕ) → Contains zs i ↔ Contains xs i
sorted_has xs ys zs moved once i = (
  λ c. Contains-permutation ys xs i (IsPermutation-sym xs ys moved) (Contains-from_dedup eqb ys i (subst (λ us. Contains us i) is c)),
  λ c. subst (λ us. Contains us i) (sym is) (Contains-dedup_nat ys i (Contains-permutation xs ys i moved c)),
)
  where
    is : zs ≡ dedup eqb ys
    is = dedup_is eqb ys zs once

module _ (vs : List Visit) (k : ℕ) (v : Visit) (l : k < length vs) (at : v ≡ get_or vs k v) where
  next : take (k + 1) vs ≡ take k vs ++ v ∷ []
  next = take_next vs k v l at

  pub found_more : (nodes : List ℕ) → v.state ≡ 0 → ((i : ℕ) → Contains nodes i ↔ Contains (take k vs) (record { state = 0; node = i })) → (i : ℕ) → Contains (nodes ++ v.node ∷ []) i ↔ Contains (take (k + 1) vs) (record { state = 0; node = i })
  found_more nodes z all i = (
    λ c. subst (λ us. Contains us w) (sym next) ((in_push (take k vs) v w).1 (to ((in_push nodes v.node i).0 c))),
    λ c. (in_push nodes v.node i).1 (from ((in_push (take k vs) v w).0 (subst (λ us. Contains us w) next c))),
  )
    where
      w : Visit
      w = record { state = 0; node = i }

      to : Contains nodes i ⊎ (v.node ≡ i) → Contains (take k vs) w ⊎ (v ≡ w)
      to (inl c) = inl ((all i).0 c)
      to (inr e) = inr (λ j. record { state = z j; node = e j })

      from : Contains (take k vs) w ⊎ (v ≡ w) → Contains nodes i ⊎ (v.node ≡ i)
      from (inl c) = inl ((all i).1 c)
      from (inr e) = inr (ap (λ (u : Visit). u.node) e)

  pub found_other : (nodes : List ℕ) → (v.state ≡ 0 → ⊥) → ((i : ℕ) → Contains nodes i ↔ Contains (take k vs) (record { state = 0; node = i })) → (i : ℕ) → Contains nodes i ↔ Contains (take (k + 1) vs) (record { state = 0; node = i })
  found_other nodes never all i = (
    λ c. subst (λ us. Contains us w) (sym next) ((in_push (take k vs) v w).1 (inl ((all i).0 c))),
    λ c. from ((in_push (take k vs) v w).0 (subst (λ us. Contains us w) next c)),
  )
    where
      w : Visit
      w = record { state = 0; node = i }

      from : Contains (take k vs) w ⊎ (v ≡ w) → Contains nodes i
      from (inl c) = (all i).1 c
      from (inr e) = absurd (never (ap (λ (u : Visit). u.state) e))
