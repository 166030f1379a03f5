-- The clauses of what fixes an atom are true of what the atoms mean.
use Rattle.std.proofs.Common.{◌≡◌, ◌↔◌, ◌⊎◌, inl, inr, ℕ, zero, suc, ◌-◌, ◌≤◌, Bool, true, false, not, cond, nat_eq, nat_lt, nat_le, List, [], ◌∷◌, map, length, Option, Some, None, slice_get, refl, sym, subst, if◌then◌else◌, arith}
use Rattle.shapes_profile.specs.Logic.{EachOf, SomeOf}
use Rattle.repair_problem.specs.declared.atom.Atom.{Atom}
use Rattle.repair_problem.specs.declared.atom.Atom.TheVariants.{Count}
use Rattle.repair_problem.specs.declared.atom.Part.{Part}
use Rattle.repair_problem.specs.declared.atom.Part.TheVariants.{Fixed, Lit}
use Rattle.repair_problem.specs.PartMeaning.{HoldsIf, PartMeans, ListMeans}
use Rattle.path_levels.specs.PathParts.{literal}
use Rattle.count_encode.specs.PartTruth.{negation}
use Rattle.count_encode.specs.Counts.{counted, count_parts}
use Rattle.atom_parts.specs.Fixing.{Fixing, NoAtom, Free, ByParts, ByCount, IsOfAtom, MeansFixing}
use Rattle.atom_parts.proofs.Facts.{some_is, none_some}
use Rattle.premise_rules.specs.PlaceClauses.{part_clause, place_clause, clause_at}

-- not all of the parts are false
abbrev pub NotAllFalse : (Atom → Type 0) → List Part → Type 0
NotAllFalse M parts = ¬ (EachOf (λ p. ¬ (PartMeans M p)) parts)

module _ (M : Atom → Type 0) where
  pub not_not : (p : Part) → ¬ (PartMeans M (negation p)) → ¬ (¬ (PartMeans M p))
  not_not (Fixed true) h g = g refl
  not_not (Fixed false) h g = h refl
  not_not (Lit l) h g = at l.positive h g
    where
      at : (p : Bool) → ¬ (HoldsIf (not p) (M l.atom)) → ¬ (HoldsIf p (M l.atom)) → ⊥
      at true h g = h g
      at false h g = g (λ m. h m)

  not_each : (ps : List Part) → EachOf (λ p. ¬ (PartMeans M p)) (map negation ps) → ¬ (¬ (EachOf (PartMeans M) ps))
  not_each [] h none = none tt
  not_each (p ∷ ps) h none = not_not p h.0 (λ m. not_each ps h.1 (λ r. none (m, r)))

  not_any : (ps : List Part) → EachOf (λ p. ¬ (PartMeans M p)) ps → ¬ (SomeOf (PartMeans M) ps)
  not_any [] h g = g
  not_any (p ∷ ps) h (inl g) = h.0 g
  not_any (p ∷ ps) h (inr g) = not_any ps h.1 g

  part_at : (ps : List Part) (k : ℕ) (p : Part) → slice_get ps k ≡ Some p → EachOf (PartMeans M) ps → PartMeans M p
  part_at [] k p e all = cc
  part_at (q ∷ ps) zero p e all = subst (PartMeans M) (some_is e) all.0
  part_at (q ∷ ps) (suc k) p e all = part_at ps k p e all.1

  any_at : (ps : List Part) (k : ℕ) (p : Part) → slice_get ps k ≡ Some p → PartMeans M p → SomeOf (PartMeans M) ps
  any_at [] k p e m = cc
  any_at (q ∷ ps) zero p e m = inl (subst (PartMeans M) (sym (some_is e)) m)
  any_at (q ∷ ps) (suc k) p e m = inr (any_at ps k p e m)

  -- each clause of the parts
  pub place_true : (f : Atom) (every : Bool) (ps : List Part) (k : ℕ) (c : List Part) → M f ↔ ListMeans M every ps → place_clause f every ps k ≡ Some c → NotAllFalse M c
  place_true f true ps k c e g = cases (nat_eq k (length ps)) (slice_get ps k) refl g
    where
      cases : (b : Bool) (o : Option Part) → slice_get ps k ≡ o → cond b (Some (literal f true ∷ map negation ps)) (part_clause f true o) ≡ Some c → NotAllFalse M c
      cases true o h g all = let r = subst (EachOf (λ p. ¬ (PartMeans M p))) (sym (some_is g)) all in not_each ps r.1 (λ each. r.0 (e.1 each))
      cases false None h g all = absurd (none_some g)
      cases false (Some p) h g all = let r = subst (EachOf (λ p. ¬ (PartMeans M p))) (sym (some_is g)) all in r.0 (λ m. r.1.0 (part_at ps k p h (e.0 m)))
  place_true f false ps k c e g = cases (nat_eq k (length ps)) (slice_get ps k) refl g
    where
      cases : (b : Bool) (o : Option Part) → slice_get ps k ≡ o → cond b (Some (literal f false ∷ ps)) (part_clause f false o) ≡ Some c → NotAllFalse M c
      cases true o h g all = let r = subst (EachOf (λ p. ¬ (PartMeans M p))) (sym (some_is g)) all in r.0 (λ m. not_any ps r.1 (e.0 m))
      cases false None h g all = absurd (none_some g)
      cases false (Some p) h g all = let r = subst (EachOf (λ p. ¬ (PartMeans M p))) (sym (some_is g)) all in not_not p r.1.0 (λ m. r.0 (e.1 (any_at ps k p h m)))

  -- the clauses of a counter, whose lower ones and item fix it
  module _ (i x j m : ℕ) (item : Part) (least : 1 ≤ m) (most : m ≤ j) (law : M (Count i x j m) ↔ (PartMeans M (counted i x (j - 1) m) ⊎ (PartMeans M (counted i x (j - 1) (m - 1)) × PartMeans M item))) where
    top : PartMeans M (counted i x j m) ↔ M (Count i x j m)
    top = at (nat_eq m 0) (nat_lt j m) refl refl
      where
        at : (b c : Bool) → nat_eq m 0 ≡ b → nat_lt j m ≡ c → PartMeans M (if b then Fixed true else (if c then Fixed false else Lit (record { atom = Count i x j m; positive = true }))) ↔ M (Count i x j m)
        at true c e f = absurd (grind arith)
        at false true e f = absurd (grind arith)
        at false false e f = (λ h. h, λ h. h)

    pub count_true : (k : ℕ) → NotAllFalse M (count_parts i x j m item k)
    count_true zero all = not_not (counted i x (j - 1) m) all.1.0 (λ s. all.0 (top.1 (law.1 (inl s))))
    count_true (suc zero) all = not_not (counted i x (j - 1) (m - 1)) all.1.0 (λ h. not_not item all.1.1.0 (λ b. all.0 (top.1 (law.1 (inr (h, b))))))
    count_true (suc (suc zero)) all = not_not (counted i x j m) all.0 (λ t. split (law.0 (top.0 t)))
      where
        split : PartMeans M (counted i x (j - 1) m) ⊎ (PartMeans M (counted i x (j - 1) (m - 1)) × PartMeans M item) → ⊥
        split (inl s) = all.1.0 s
        split (inr r) = all.1.1.0 r.0
    count_true (suc (suc (suc k))) all = not_not (counted i x j m) all.0 (λ t. split (law.0 (top.0 t)))
      where
        split : PartMeans M (counted i x (j - 1) m) ⊎ (PartMeans M (counted i x (j - 1) (m - 1)) × PartMeans M item) → ⊥
        split (inl s) = all.1.0 s
        split (inr r) = all.1.1.0 r.1

-- of an atom that means what it is fixed by
pub fixing_true : (M : Atom → Type 0) (a : Atom) (f : Fixing) (k : ℕ) (c : List Part) → MeansFixing M a f → IsOfAtom a f → clause_at a f k ≡ Some c → NotAllFalse M c
fixing_true M a NoAtom k c law own e = absurd (none_some e)
fixing_true M a Free k c law own e = absurd (none_some e)
fixing_true M a (ByParts parts) k c law own e = place_true M a parts.every parts.list k c law e
fixing_true M a (ByCount i x j m item) k c law own e = at (nat_le k 3) e
  where
    at : (b : Bool) → cond b (Some (count_parts i x j m item k)) None ≡ Some c → NotAllFalse M c
    at true g = subst (NotAllFalse M) (some_is g) (count_true M i x j m item own.1 own.2 (subst (λ b. M b ↔ (PartMeans M (counted i x (j - 1) m) ⊎ (PartMeans M (counted i x (j - 1) (m - 1)) × PartMeans M item))) own.0 law) k)
    at false g = absurd (none_some g)
