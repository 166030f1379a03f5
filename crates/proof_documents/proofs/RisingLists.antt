-- When a list that rises still rises with one item more.
use Rattle.std.proofs.Common.{◌≡◌, suc, ◌-◌, Bool, true, false, ◌&&◌, List, [], ◌∷◌, ◌++◌, length, slice_get, Some, refl, sym, ap, ◌∙◌, subst, arith}
use Rattle.std.specs.declared.cmp.Ordering.{Ordering}
use Rattle.std.specs.declared.cmp.Ordering.TheVariants.{Less, Equal, Greater}
use Rattle.std.specs.Ordering.{is_lt}
use Rattle.std.specs.Cmp.{IsTotalOrder}
use Rattle.std.specs.FinMap.Entries.{below_all}
use Rattle.rdf_terms.specs.Set.{marked, is_rising}

both_left : (a b : Bool) → (a && b) ≡ true → a ≡ true
both_left true b e = refl
both_left false b e = e

both_right : (a b : Bool) → (a && b) ≡ true → b ≡ true
both_right true b e = e
both_right false b e = cc

both : (a b : Bool) → a ≡ true → b ≡ true → (a && b) ≡ true
both true b e f = f
both false b e f = e

and_true : (a : Bool) → (a && true) ≡ a
and_true true = refl
and_true false = refl

and_false : (a b : Bool) → b ≡ false → (a && b) ≡ false
and_false true b e = e
and_false false b e = refl

less_of : (o : Ordering) → is_lt o ≡ true → o ≡ Less
less_of Less e = refl
less_of Equal e = cc
less_of Greater e = cc

-- a list with a last item ends with it
front_of : {K : Type 0} (xs : List K) (y : K) → slice_get xs (length xs - 1) ≡ Some y → (front : List K) × (xs ≡ front ++ y ∷ [])
front_of [] y e = absurd cc
front_of (x ∷ []) y e = ([], let same : x ≡ y = cc in ap (λ z. z ∷ []) same)
front_of (x ∷ z ∷ zs) y e =
    let at : suc (length zs) ≡ suc (suc (length zs)) - 1 = omega arith in
    let before : length zs ≡ suc (length zs) - 1 = omega arith in
    let k = front_of (z ∷ zs) y (subst (λ n. slice_get (z ∷ zs) n ≡ Some y) before (subst (λ n. slice_get (x ∷ z ∷ zs) n ≡ Some y) (sym at) e)) in
    (x ∷ k.0, ap (λ ws. x ∷ ws) k.1)

module _ {K : Type 0} {R : K → K → Ordering} (o : IsTotalOrder R) where
  -- what is below all is below what is above the last
  below_more : (x y t : K) (front : List K) → R y t ≡ Less → below_all R x (marked (front ++ y ∷ [])) ≡ true → below_all R x (marked ((front ++ y ∷ []) ++ t ∷ [])) ≡ true
  below_more x y t [] lt h =
      let below = both_left _ _ h in
      both _ _ below (both _ _ (ap is_lt (o.trans x y t (less_of _ below) lt)) refl)
  below_more x y t (z ∷ zs) lt h = both _ _ (both_left _ _ h) (below_more x y t zs lt (both_right _ _ h))

  behind_last : (front : List K) (y t : K) → is_rising R (front ++ y ∷ []) ≡ true → is_rising R ((front ++ y ∷ []) ++ t ∷ []) ≡ is_lt (R y t)
  behind_last [] y t h = and_true _ ∙ and_true (is_lt (R y t))
  behind_last (x ∷ front) y t h = by (is_lt (R y t)) refl (behind_last front y t (both_right _ _ h))
    where
      by : (b : Bool) → is_lt (R y t) ≡ b → is_rising R ((front ++ y ∷ []) ++ t ∷ []) ≡ is_lt (R y t) → is_rising R ((x ∷ front ++ y ∷ []) ++ t ∷ []) ≡ b
      by true e rest = both _ _ (below_more x y t front (less_of _ e) (both_left _ _ h)) (rest ∙ e)
      by false e rest = and_false _ _ (rest ∙ e)

  -- it is the last item alone that decides
  pub rises_with_last : (xs : List K) (y t : K) → Some y ≡ slice_get xs (length xs - 1) → is_rising R xs ≡ true → is_rising R (xs ++ t ∷ []) ≡ is_lt (R y t)
  rises_with_last xs y t last h =
      let k = front_of xs y (sym last) in
      ap (λ ys. is_rising R (ys ++ t ∷ [])) k.1 ∙ behind_last k.0 y t (sym (ap (is_rising R) k.1) ∙ h)
