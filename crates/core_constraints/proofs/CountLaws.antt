-- At least so many things: one thing more.
use Rattle.std.proofs.Common.{◌≡◌, ◌≢◌, ℕ, suc, ◌+◌, ◌≤◌, ◌↔◌, Bool, true, false, not, ◌&&◌, ◌||◌, List, [], ◌∷◌, length, take, Some, slice_get, refl, sym, ap, ◌∙◌, subst, ◌⊎◌, inl, inr, Contains, arith}
use Rattle.std.specs.Ordering.{eq_by_cmp, is_eq}
use Rattle.std.specs.FinMap.{IsAntisymmetric}
use Rattle.std.specs.declared.cmp.Ordering.{Ordering}
use Rattle.std.specs.declared.cmp.Ordering.TheVariants.{Less, Equal, Greater}
use Rattle.std.specs.Cmp.{IsTotalOrder, tied_itself}
use Rattle.rdf_terms.specs.Set.{Set, items, has, with, without, empty}
use Rattle.rdf_terms.proofs.Membership.{has-with, has-without, length-with, same_set, has-empty, has_at}
use Rattle.shapes_profile.specs.Logic.{AtLeast}
use Rattle.core_constraints.specs.Decisions.{Exactly}
use Rattle.core_constraints.proofs.Decided.{true_or_false, no_false, false_of, in_take_more, in_take_next, in_take_this, in_take_none, in_take_place, Distinct}

equal_of : (r : Ordering) → is_eq r ≡ true → r ≡ Equal
equal_of Less e = cc
equal_of Equal e = refl
equal_of Greater e = cc

and_false : (b : Bool) → (b && false) ≡ false
and_false true = refl
and_false false = refl

and_left : (a b : Bool) → (a && b) ≡ true → a ≡ true
and_left true b e = refl
and_left false b e = e

module _ {K : Type 0} {R : K → K → Ordering} where
  pub at_least_iff : (P Q : K → Type 0) (n : ℕ) → ((y : K) → P y → Q y) → AtLeast R P n → AtLeast R Q n
  at_least_iff P Q n more h = record { members = h.members; all = λ y e. more y (h.all y e); enough = h.enough }

  pub at_least_none : (P : K → Type 0) → AtLeast R P 0
  at_least_none P = record { members = empty; all = λ y e. absurd (no_false _ e (has-empty R y)); enough = omega arith }

  pub at_least_fewer : (P : K → Type 0) (m n : ℕ) → m ≤ n → AtLeast R P n → AtLeast R P m
  at_least_fewer P m n le h = let k = h.enough in record { members = h.members; all = h.all; enough = omega arith }

module _ {K : Type 0} {R : K → K → Ordering} (o : IsTotalOrder R) (ties : IsAntisymmetric R) where
  eq_is : (y z : K) → eq_by_cmp R y z ≡ true → y ≡ z
  eq_is y z e = ties y z (equal_of (R y z) e)

  eq_itself : (y : K) → eq_by_cmp R y y ≡ true
  eq_itself y = ap is_eq (tied_itself o y)

  -- one thing more
  pub at_least_more : (P Q : K → Type 0) (z : K) (m : ℕ) → ((y : K) → P y → Q y) → ¬ (P z) → Q z → AtLeast R P m → AtLeast R Q (m + 1)
  at_least_more P Q z m more new here h =
      record {
        members = with h.members z;
        all = λ y e. pick y (eq_by_cmp R y z) refl (sym (has-with o h.members z y) ∙ e);
        enough = let n = length-with o h.members z (false_of _ (λ e. new (h.all z e))) in let k = h.enough in omega arith;
      }
    where
      pick : (y : K) (b : Bool) → eq_by_cmp R y z ≡ b → (b || has h.members y) ≡ true → Q y
      pick y true e g = subst Q (sym (eq_is y z e)) here
      pick y false e g = more y (h.all y g)

  -- one thing less
  pub at_least_less : (P Q : K → Type 0) (z : K) (m : ℕ) → ((y : K) → Q y → y ≢ z → P y) → AtLeast R Q (m + 1) → AtLeast R P (m + 1) ⊎ (AtLeast R P m × Q z)
  at_least_less P Q z m less h = cases (true_or_false (has h.members z))
    where
      rest : Set R
      rest = without h.members (with empty z)

      has_rest : (y : K) → has rest y ≡ (has h.members y && not (eq_by_cmp R y z || false))
      has_rest y = has-without o ties h.members (with empty z) y ∙ ap (λ b. has h.members y && not b) (has-with o empty z y ∙ ap (λ b. eq_by_cmp R y z || b) (has-empty R y))

      split : (y : K) (a b : Bool) → eq_by_cmp R y z ≡ a → has h.members y ≡ b → has h.members z ≡ true → (a || (b && not (a || false))) ≡ b
      split y true b f g e = sym (subst (λ x. has h.members x ≡ true) (sym (eq_is y z f)) e) ∙ g
      split y false true f g e = refl
      split y false false f g e = refl

      again : has h.members z ≡ true → with rest z ≡ h.members
      again e = same_set o ties (with rest z) h.members (λ y. has-with o rest z y ∙ ap (λ b. eq_by_cmp R y z || b) (has_rest y) ∙ split y _ _ refl refl e)

      gone : has rest z ≡ false
      gone = has_rest z ∙ ap (λ b. has h.members z && not (b || false)) (eq_itself z) ∙ and_false (has h.members z)

      others : (y : K) → has rest y ≡ true → P y
      others y g = less y (h.all y (and_left _ _ (sym (has_rest y) ∙ g))) (λ same. no_false _ g (subst (λ x. has rest x ≡ false) (sym same) gone))

      cases : (has h.members z ≡ true) ⊎ (has h.members z ≡ false) → AtLeast R P (m + 1) ⊎ (AtLeast R P m × Q z)
      cases (inl e) =
          let n : length (items h.members) ≡ length (items rest) + 1 = ap (λ s. length (items s)) (sym (again e)) ∙ length-with o rest z gone in
          let k = h.enough in
          inr (record { members = rest; all = others; enough = omega arith }, h.all z e)
      cases (inr e) = inl (record { members = h.members; all = λ y g. less y (h.all y g) (λ same. no_false _ g (subst (λ x. has h.members x ≡ false) (sym same) e)); enough = h.enough })

  pub at_least_some : (P : K → Type 0) (m : ℕ) → ((y : K) → ¬ (P y)) → ¬ (AtLeast R P (m + 1))
  at_least_some P m none h = many (items h.members) refl
    where
      many : (xs : List K) → items h.members ≡ xs → ⊥
      many [] e = let k = h.enough in let z : length (items h.members) ≡ 0 = ap length e in absurd (grind arith)
      many (x ∷ xs) e = none x (h.all x (has_at o ties h.members x 0 (ap (λ ys. slice_get ys 0) e)))

module _ {K : Type 0} {R : K → K → Ordering} where
  pub exactly_least : (P : K → Type 0) (n m : ℕ) → Exactly R P n → AtLeast R P m ↔ (m ≤ n)
  exactly_least P n m h = (bound, λ le. at_least_fewer P m n le h.least)
    where
      le_or_lt : (m n : ℕ) → (m ≤ n) ⊎ (n + 1 ≤ m)
      le_or_lt m n = grind arith

      bound : AtLeast R P m → m ≤ n
      bound g = pick (le_or_lt m n)
        where
          pick : (m ≤ n) ⊎ (n + 1 ≤ m) → m ≤ n
          pick (inl le) = le
          pick (inr lt) = absurd (h.most (at_least_fewer P (n + 1) m lt g))

  pub exactly_iff : (P Q : K → Type 0) (n : ℕ) → ((y : K) → P y ↔ Q y) → Exactly R P n → Exactly R Q n
  exactly_iff P Q n e h = record { least = at_least_iff P Q n (λ y. (e y).0) h.least; most = λ g. h.most (at_least_iff Q P (n + 1) (λ y. (e y).1) g) }

-- the first j items with F
abbrev pub First : {K : Type 0} → List K → (K → Type 0) → ℕ → K → Type 0
First items F j y = Contains (take j items) y × F y

module _ {K : Type 0} {R : K → K → Ordering} (o : IsTotalOrder R) (ties : IsAntisymmetric R) (xs : List K) (F : K → Type 0) where
  pub exactly_none : Exactly R (First xs F 0) 0
  exactly_none = record { least = at_least_none (First xs F 0); most = at_least_some o ties (First xs F 0) 0 (λ y h. in_take_none xs y h.0) }

  new : (j : ℕ) (z : K) → Distinct xs → slice_get xs j ≡ Some z → ¬ (First xs F j z)
  new j z once e h = let r = in_take_place xs j z h.0 in let lt = r.1 in let i : r.0 ≡ j = once r.0 j z r.2 e in absurd (omega arith)

  back : (j : ℕ) (z : K) → slice_get xs j ≡ Some z → (y : K) → First xs F (suc j) y → y ≢ z → First xs F j y
  back j z e y h apart = (pick (in_take_next xs j z y e h.0), h.1)
    where
      pick : (z ≡ y) ⊎ Contains (take j xs) y → Contains (take j xs) y
      pick (inl same) = absurd (apart (sym same))
      pick (inr g) = g

  pub exactly_more : (j n : ℕ) (z : K) → Distinct xs → slice_get xs j ≡ Some z → F z → Exactly R (First xs F j) n → Exactly R (First xs F (suc j)) (n + 1)
  exactly_more j n z once e f h =
      record {
        least = at_least_more o ties (First xs F j) (First xs F (suc j)) z n (λ y g. (in_take_more xs j y g.0, g.1)) (new j z once e) (in_take_this xs j z e, f) h.least;
        most = λ g. pick (at_least_less o ties (First xs F j) (First xs F (suc j)) z (n + 1) (back j z e) g);
      }
    where
      pick : AtLeast R (First xs F j) (n + 1 + 1) ⊎ (AtLeast R (First xs F j) (n + 1) × First xs F (suc j) z) → ⊥
      pick (inl g) = h.most (at_least_fewer (First xs F j) (n + 1) (n + 1 + 1) (omega arith) g)
      pick (inr g) = h.most g.0

  pub exactly_same : (j n : ℕ) (z : K) → slice_get xs j ≡ Some z → ¬ (F z) → Exactly R (First xs F j) n → Exactly R (First xs F (suc j)) n
  exactly_same j n z e f h = exactly_iff (First xs F j) (First xs F (suc j)) n (λ y. (λ g. (in_take_more xs j y g.0, g.1), λ g. back j z e y g (λ same. f (subst F same g.1)))) h
