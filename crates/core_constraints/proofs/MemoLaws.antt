-- What a map has after one key more.
use Rattle.std.proofs.Common.{◌≡◌, Bool, true, false, Option, Some, ◌⊎◌, inl, inr, refl, sym, ap, ◌∙◌, rules}
use Rattle.rdf_navigation.proofs.PropertyLaws.{same_some}
use Rattle.core_constraints.specs.declared.memo.Validation.{Validation}
use Rattle.core_constraints.specs.Findings.{same_validation}

pub same_is : (a b : Validation) → same_validation a b ≡ true → a ≡ b
same_is a b h = search rules

module _ {K V : Type 0} (eq : K → K → Bool) (is : (a b : K) → eq a b ≡ true → a ≡ b) where
  -- its old value, or the new one at this key
  pub noted : (f g : K → Option V) (k : K) (w : V) → g k ≡ Some w → ((q : K) → eq k q ≡ false → g q ≡ f q) → (q : K) (b : V) → g q ≡ Some b → (f q ≡ Some b) ⊎ ((q ≡ k) × (b ≡ w))
  noted f g k w own others q b h = at (eq k q) refl
    where
      at : (t : Bool) → eq k q ≡ t → (f q ≡ Some b) ⊎ ((q ≡ k) × (b ≡ w))
      at true e = let d : k ≡ q = is k q e in inr (sym d, same_some (sym h ∙ ap g (sym d) ∙ own))
      at false e = inl (sym (others q e) ∙ h)
