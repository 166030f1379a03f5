-- What counters mean: of the first j things, at least m are to be counted.
use Rattle.std.proofs.Common.{◌≡◌, ◌↔◌, ◌⊎◌, inl, inr, ℕ, zero, suc, ◌+◌, ◌-◌, ◌<◌, ◌≤◌, Bool, true, false, not, nat_eq, nat_lt, List, [], ◌∷◌, length, take, Contains, Some, slice_get, refl, sym, ap, ◌∙◌, subst, arith, if◌then◌else◌}
use Rattle.std.specs.declared.cmp.Ordering.{Ordering}
use Rattle.std.specs.Cmp.{IsTotalOrder}
use Rattle.std.specs.FinMap.{IsAntisymmetric}
use Rattle.shapes_profile.specs.Logic.{AtLeast}
use Rattle.repair_problem.specs.declared.atom.Atom.{Atom}
use Rattle.repair_problem.specs.declared.atom.Atom.TheVariants as atom
use Rattle.repair_problem.specs.declared.atom.Part.{Part}
use Rattle.repair_problem.specs.declared.atom.Part.TheVariants.{Fixed, Lit}
use Rattle.repair_problem.specs.PartMeaning.{PartMeans}
use Rattle.count_encode.specs.Counts.{counted}
use Rattle.core_constraints.proofs.Decided.{Distinct, in_take_more, in_take_next, in_take_this, in_take_none, in_take_place}
use Rattle.core_constraints.proofs.CountLaws.{First, at_least_iff, at_least_none, at_least_more, at_least_less, at_least_some}
use Rattle.atom_parts.specs.Fixing.{IsPositive}
use Rattle.atom_parts.proofs.Facts.{always_iff, never_iff, iff_sym}

-- a counter is fixed or an atom itself
pub counted_positive : (i x j m : ℕ) → IsPositive (counted i x j m)
counted_positive i x j m = at (nat_eq m 0) (nat_lt j m)
  where
    at : (b c : Bool) → IsPositive (if b then Fixed true else (if c then Fixed false else Lit (record { atom = atom.Count i x j m; positive = true })))
    at true c = tt
    at false true = tt
    at false false = refl

-- a counter as a part says T, where its atom does
pub counted_means : (M : Atom → Type 0) (i x j m : ℕ) (T : Type 0) → (m ≡ 0 → T) → (j < m → ¬ T) → (1 ≤ m → m ≤ j → M (atom.Count i x j m) ↔ T) → T ↔ PartMeans M (counted i x j m)
counted_means M i x j m T always never tells = at (nat_eq m 0) (nat_lt j m) refl refl
  where
    at : (b c : Bool) → nat_eq m 0 ≡ b → nat_lt j m ≡ c → T ↔ PartMeans M (if b then Fixed true else (if c then Fixed false else Lit (record { atom = atom.Count i x j m; positive = true })))
    at true c e f = always_iff (always (grind arith))
    at false true e f = never_iff (never (grind arith))
    at false false e f = iff_sym (tells (grind arith) (grind arith))

module _ {K : Type 0} {R : K → K → Ordering} (o : IsTotalOrder R) (ties : IsAntisymmetric R) (xs : List K) (F : K → Type 0) (once : Distinct xs) where
  -- of one thing more
  module _ (j : ℕ) (z : K) (here : slice_get xs j ≡ Some z) where
    pub counter_more : (m : ℕ) → AtLeast R (First xs F j) m → AtLeast R (First xs F (suc j)) m
    counter_more m h = at_least_iff (First xs F j) (First xs F (suc j)) m (λ y p. (in_take_more xs j y p.0, p.1)) h

    pub counter_next : (m : ℕ) → AtLeast R (First xs F j) m → F z → AtLeast R (First xs F (suc j)) (m + 1)
    counter_next m h f =
        at_least_more o ties (First xs F j) (First xs F (suc j)) z m (λ y p. (in_take_more xs j y p.0, p.1))
        (λ p. let r = in_take_place xs j z p.0 in let lt = r.1 in let e : r.0 ≡ j = once r.0 j z r.2 here in absurd (omega arith))
        (in_take_this xs j z here, f) h

    pub counter_back : (m : ℕ) → AtLeast R (First xs F (suc j)) (m + 1) → AtLeast R (First xs F j) (m + 1) ⊎ (AtLeast R (First xs F j) m × F z)
    counter_back m h = more (at_least_less o ties (First xs F j) (First xs F (suc j)) z m (λ y p other. pick y p.1 other (in_take_next xs j z y here p.0)) h)
      where
        pick : (y : K) → F y → (y ≡ z → ⊥) → (z ≡ y) ⊎ Contains (take j xs) y → First xs F j y
        pick y f other (inl e) = absurd (other (sym e))
        pick y f other (inr h) = (h, f)

        more : AtLeast R (First xs F j) (m + 1) ⊎ (AtLeast R (First xs F j) m × First xs F (suc j) z) → AtLeast R (First xs F j) (m + 1) ⊎ (AtLeast R (First xs F j) m × F z)
        more (inl h) = inl h
        more (inr h) = inr (h.0, h.1.1)

  -- of j things no more than j are to be counted
  pub counter_bound : (j m : ℕ) → j ≤ length xs → AtLeast R (First xs F j) m → m ≤ j
  counter_bound j zero within h = omega arith
  counter_bound zero (suc m) within h = absurd (at_least_some o ties (First xs F 0) m (λ y p. absurd (in_take_none xs y p.0)) (subst (AtLeast R (First xs F 0)) (omega arith) h))
  counter_bound (suc j) (suc m) within h = at (there xs j (omega arith)) (λ g. counter_bound j (m + 1) (omega arith) g) (λ g. counter_bound j m (omega arith) g)
    where
      split : (z : K) → AtLeast R (First xs F j) (m + 1) ⊎ (AtLeast R (First xs F j) m × F z) → (AtLeast R (First xs F j) (m + 1) → m + 1 ≤ j) → (AtLeast R (First xs F j) m → m ≤ j) → suc m ≤ suc j
      split z (inl g) more same = let k = more g in omega arith
      split z (inr g) more same = let k = same g.0 in omega arith

      there : (ys : List K) (i : ℕ) → i < length ys → (z : K) × (slice_get ys i ≡ Some z)
      there [] i l = absurd (omega (arith, l))
      there (y ∷ ys) zero l = (y, refl)
      there (y ∷ ys) (suc i) l = there ys i (omega (arith, l))

      at : (z : K) × (slice_get xs j ≡ Some z) → (AtLeast R (First xs F j) (m + 1) → m + 1 ≤ j) → (AtLeast R (First xs F j) m → m ≤ j) → suc m ≤ suc j
      at r more same = split r.0 (counter_back j r.0 r.1 m (subst (AtLeast R (First xs F (suc j))) (omega arith) h)) more same

  -- the two counters over one thing less, and the thing
  pub counter_step : (j m : ℕ) (z : K) → 1 ≤ m → 1 ≤ j → slice_get xs (j - 1) ≡ Some z → AtLeast R (First xs F j) m ↔ (AtLeast R (First xs F (j - 1)) m ⊎ (AtLeast R (First xs F (j - 1)) (m - 1) × F z))
  counter_step j m z least first here =
      let s : suc (j - 1) ≡ j = omega arith in
      let n : m - 1 + 1 ≡ m = omega arith in
      (to s n, from s n)
    where
      to : suc (j - 1) ≡ j → m - 1 + 1 ≡ m → AtLeast R (First xs F j) m → AtLeast R (First xs F (j - 1)) m ⊎ (AtLeast R (First xs F (j - 1)) (m - 1) × F z)
      to s n h = subst (λ t. AtLeast R (First xs F (j - 1)) t ⊎ (AtLeast R (First xs F (j - 1)) (m - 1) × F z)) n (counter_back (j - 1) z here (m - 1) (subst (AtLeast R (First xs F (suc (j - 1)))) (sym n) (subst (λ t. AtLeast R (First xs F t) m) (sym s) h)))

      from : suc (j - 1) ≡ j → m - 1 + 1 ≡ m → AtLeast R (First xs F (j - 1)) m ⊎ (AtLeast R (First xs F (j - 1)) (m - 1) × F z) → AtLeast R (First xs F j) m
      from s n (inl h) = subst (λ t. AtLeast R (First xs F t) m) s (counter_more (j - 1) z here m h)
      from s n (inr h) = subst (λ t. AtLeast R (First xs F t) m) s (subst (AtLeast R (First xs F (suc (j - 1)))) n (counter_next (j - 1) z here (m - 1) h.0 h.1))
