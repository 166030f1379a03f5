-- The number of a term in a set is its place.
use Rattle.std.proofs.Common.{◌≡◌, ℕ, zero, suc, ◌<◌, Bool, true, false, cond, ◌||◌, List, [], ◌∷◌, length, Some, slice_get, refl, sym, ap, ◌∙◌, arith}
use Rattle.std.specs.declared.cmp.Ordering.TheVariants.{Less}
use Rattle.std.specs.Ordering.{is_eq}
use Rattle.rdf_terms.specs.Term.{term_cmp}
use Rattle.rdf_terms.specs.declared.term.Term.{Term}
use Rattle.rdf_terms.specs.Nodes.{Nodes, terms, has_term}
use Rattle.rdf_terms.proofs.Orders.{term_tied, same_term as same_is}
use Rattle.rdf_terms.proofs.NodesLaws.{has_term-terms, terms_rise_at}
use Rattle.rdf_navigation.specs.Values.{same_term, among}
use Rattle.shapes_profile.specs.Shapes.{place_in}

-- the place of the first equal term
first_place : (xs : List Term) (x : Term) (i : ℕ) → slice_get xs i ≡ Some x → ((j : ℕ) (y : Term) → j < i → slice_get xs j ≡ Some y → same_term y x ≡ false) → i ≡ place_in xs x
first_place [] x i e before = cc
first_place (y ∷ ys) x zero e before = sym (ap (λ (b : Bool). cond b 0 (suc (place_in ys x))) (same y e))
  where
    same : (z : Term) → Some z ≡ Some x → same_term z x ≡ true
    same z f = let g : z ≡ x = cc in ap (λ (w : Term). same_term w x) g ∙ term_tied x
first_place (y ∷ ys) x (suc i) e before =
    ap suc (first_place ys x i e (λ j z lt f. before (suc j) z (omega (arith, lt)) f))
    ∙ sym (ap (λ (b : Bool). cond b 0 (suc (place_in ys x))) (before 0 y (omega arith) refl))

less_apart : (y x : Term) → term_cmp y x ≡ Less → same_term y x ≡ false
less_apart y x e = ap is_eq e

pub place_there : (n : Nodes) (x : Term) (i : ℕ) → slice_get (terms n) i ≡ Some x → i ≡ place_in (terms n) x
place_there n x i e = first_place (terms n) x i e (λ j y lt f. less_apart y x (terms_rise_at n y x j i f e lt))

not_here : (a b : Bool) → (a || b) ≡ false → a ≡ false
not_here true b e = cc
not_here false b e = refl

not_later : (a b : Bool) → (a || b) ≡ false → b ≡ false
not_later true b e = cc
not_later false b e = e

flip : (x y : Term) → same_term x y ≡ false → same_term y x ≡ false
flip x y e = by (same_term y x) refl
  where
    by : (b : Bool) → same_term y x ≡ b → b ≡ false
    by false f = refl
    by true f = let g = same_is y x f in sym (ap (λ (z : Term). same_term x z) g ∙ term_tied x) ∙ e

absent : (xs : List Term) (x : Term) → among xs x ≡ false → length xs ≡ place_in xs x
absent [] x h = refl
absent (y ∷ ys) x h =
    ap suc (absent ys x (not_later (same_term x y) _ h))
    ∙ sym (ap (λ (b : Bool). cond b 0 (suc (place_in ys x))) (flip x y (not_here (same_term x y) _ h)))

pub place_absent : (n : Nodes) (x : Term) → has_term n x ≡ false → length (terms n) ≡ place_in (terms n) x
place_absent n x h = absent (terms n) x (sym (has_term-terms n x) ∙ h)
