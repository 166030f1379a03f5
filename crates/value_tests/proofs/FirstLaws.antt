-- The first terms in the order of terms.
use Rattle.std.proofs.Common.{◌≡◌, ◌≢◌, ◌↔◌, ◌⊎◌, inl, inr, ℕ, ◌+◌, ◌<◌, Bool, true, false, cond, List, [], ◌∷◌, ◌++◌, length, get_or, take, Contains, Option, Some, None, refl, sym, ap, subst, ◌∙◌}
use Rattle.std.specs.declared.cmp.Ordering.{Ordering}
use Rattle.std.specs.declared.cmp.Ordering.TheVariants.{Less, Equal, Greater}
use Rattle.std.specs.Ordering.{is_gt, ordering_reverse}
use Rattle.std.proofs.lemmas.Cmp.{upto, tied_itself}
use Rattle.std.proofs.lemmas.List.Elements.{Contains-append_left, Contains-append_right, Contains-append_cases}
use Rattle.rdf_terms.specs.Statement.{Statement}
use Rattle.rdf_terms.specs.Term.{term_cmp}
use Rattle.rdf_terms.specs.TermOrder.{term_cmp_total}
use Rattle.rdf_terms.specs.declared.term.Term.{Term}
use Rattle.rdf_terms.proofs.Members.{in_none, in_first, in_cases, take_next}
use Rattle.value_tests.specs.FirstTerms.{IsFirstWith, first_of_two}

not_greater : (o : Ordering) → o ≢ Greater → is_gt o ≡ false
not_greater Less h = refl
not_greater Equal h = refl
not_greater Greater h = absurd (h refl)

is_not_greater : (o : Ordering) → is_gt o ≡ false → o ≢ Greater
is_not_greater Less h e = cc
is_not_greater Equal h e = cc
is_not_greater Greater h e = cc

reversed : (o : Ordering) → is_gt o ≡ true → is_gt (ordering_reverse o) ≡ false
reversed Less e = cc
reversed Equal e = cc
reversed Greater e = refl

greater_back : (x y : Term) → is_gt (term_cmp x y) ≡ true → is_gt (term_cmp y x) ≡ false
greater_back x y e = ap is_gt (term_cmp_total.antisymm y x) ∙ reversed (term_cmp x y) e

pub first_alike : (P Q : Term → Type 0) (o : Option Term) → ((y : Term) → P y ↔ Q y) → IsFirstWith P o → IsFirstWith Q o
first_alike P Q None h f = λ y q. f y ((h y).1 q)
first_alike P Q (Some x) h f = ((h x).0 f.0, λ z q. f.1 z ((h z).1 q))

pub first_one : (P : Term → Type 0) (x : Term) → P x → ((y : Term) → P y → y ≡ x) → IsFirstWith P (Some x)
first_one P x own only = (own, λ z p e. is_not_greater Equal refl (sym (tied_itself term_cmp_total x) ∙ sym (ap (λ (w : Term). term_cmp x w) (only z p)) ∙ e))

pub first_of_both : (P Q : Term → Type 0) (a b : Option Term) → IsFirstWith P a → IsFirstWith Q b → IsFirstWith (λ (y : Term). P y ⊎ Q y) (first_of_two a b)
first_of_both P Q None None h k = λ y e. by y e
  where
    by : (y : Term) → P y ⊎ Q y → ⊥
    by y (inl p) = h y p
    by y (inr q) = k y q
first_of_both P Q None (Some b) h k = (inr k.0, by)
  where
    by : (z : Term) → P z ⊎ Q z → term_cmp b z ≢ Greater
    by z (inl p) = absurd (h z p)
    by z (inr q) = k.1 z q
first_of_both P Q (Some a) None h k = (inl h.0, by)
  where
    by : (z : Term) → P z ⊎ Q z → term_cmp a z ≢ Greater
    by z (inl p) = h.1 z p
    by z (inr q) = absurd (k z q)
first_of_both P Q (Some a) (Some b) h k = by (is_gt (term_cmp a b)) refl
  where
    after : is_gt (term_cmp a b) ≡ true → (z : Term) → P z ⊎ Q z → term_cmp b z ≢ Greater
    after e z (inl p) = is_not_greater (term_cmp b z) (upto term_cmp_total b a z (greater_back a b e) (not_greater (term_cmp a z) (h.1 z p)))
    after e z (inr q) = k.1 z q

    before : is_gt (term_cmp a b) ≡ false → (z : Term) → P z ⊎ Q z → term_cmp a z ≢ Greater
    before e z (inl p) = h.1 z p
    before e z (inr q) = is_not_greater (term_cmp a z) (upto term_cmp_total a b z e (not_greater (term_cmp b z) (k.1 z q)))

    by : (g : Bool) → is_gt (term_cmp a b) ≡ g → IsFirstWith (λ (y : Term). P y ⊎ Q y) (cond g (Some b) (Some a))
    by true e = (inr k.0, after e)
    by false e = (inl h.0, before e)

-- of what triples have, one triple after another
module _ (P : Statement → Term → Type 0) where
  abbrev pub HasIn : List Statement → Term → Type 0
  HasIn ts y = (t : Statement) × Contains ts t × P t y

  pub first_start : IsFirstWith (HasIn []) None
  first_start y h = in_none h.0 h.1

  pub first_next : (ts : List Statement) (i : ℕ) (t : Statement) (a b : Option Term) → i < length ts → t ≡ get_or ts i t
      → IsFirstWith (HasIn (take i ts)) a → IsFirstWith (P t) b → IsFirstWith (HasIn (take (i + 1) ts)) (first_of_two a b)
  first_next ts i t a b lt is h k =
      first_alike (λ (y : Term). HasIn (take i ts) y ⊎ P t y) (HasIn (take (i + 1) ts)) (first_of_two a b)
      (λ y. (λ e. to y e, λ e. from y e))
      (first_of_both (HasIn (take i ts)) (P t) a b h k)
    where
      whole : take (i + 1) ts ≡ take i ts ++ t ∷ []
      whole = take_next ts i t lt is

      in_whole : (u : Statement) → Contains (take i ts ++ t ∷ []) u → Contains (take (i + 1) ts) u
      in_whole u c = subst (λ (us : List Statement). Contains us u) (sym whole) c

      to : (y : Term) → HasIn (take i ts) y ⊎ P t y → HasIn (take (i + 1) ts) y
      to y (inl e) = (e.0, in_whole e.0 (Contains-append_left (take i ts) (t ∷ []) e.0 e.1), e.2)
      to y (inr p) = (t, in_whole t (Contains-append_right (take i ts) (t ∷ []) t (in_first t [])), p)

      last : (u : Statement) (y : Term) → P u y → (t ≡ u) ⊎ Contains [] u → HasIn (take i ts) y ⊎ P t y
      last u y p (inl e) = inr (subst (λ (v : Statement). P v y) (sym e) p)
      last u y p (inr c) = absurd (in_none u c)

      parts : (u : Statement) (y : Term) → P u y → Contains (take i ts) u ⊎ Contains (t ∷ []) u → HasIn (take i ts) y ⊎ P t y
      parts u y p (inl c) = inl (u, c, p)
      parts u y p (inr c) = last u y p (in_cases t [] u c)

      from : (y : Term) → HasIn (take (i + 1) ts) y → HasIn (take i ts) y ⊎ P t y
      from y e = parts e.0 y e.2 (Contains-append_cases (take i ts) (t ∷ []) e.0 (subst (λ (us : List Statement). Contains us e.0) whole e.1))
