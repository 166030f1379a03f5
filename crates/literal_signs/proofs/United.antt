-- What a write to a sign does to the set.
use Rattle.std.proofs.Common.{◌≡◌, ◌≢◌, ℕ, ◌+◌, ◌<◌, Bool, true, false, not, cond, ◌&&◌, ◌||◌, nat_eq, List, set, get_or, length, take, refl, sym, ap, ◌∙◌, subst, ◌⊎◌, inl, inr, eqb-true, get_or-set_same, get_or-set_other, eq-eqb}
use Rattle.std.proofs.Math.Path.{fun_ext}
use Rattle.std.specs.Cmp.{nat_eq_equiv}
use Rattle.clause_store.specs.declared.lit.Lit.{Lit}
use Rattle.clause_store.specs.Clauses.{has, is_clause, mentions, sign_eq, opposite}
use Rattle.literal_signs.specs.declared.sign.Sign.{Sign}
use Rattle.literal_signs.specs.declared.sign.Sign.TheVariants.{Absent}
use Rattle.clause_store.specs.Chained.{LitSet, ClashesOnce, union, without}
use Rattle.literal_signs.specs.Marked.{AreApart, marked_set, sign_marks, sign_for}
use Rattle.clause_store.proofs.Sets.{has-more, has-at, has-mentions, once-before, or_nothing, same, never, lit_of, other_signs, and_left, and_right, true_or_false, not_true}

pub marked_set-set : (signs : List Sign) (v : ℕ) (s : Sign) (m : Lit) → v < length signs → marked_set (set signs v s) m ≡ cond (nat_eq v m.var) (sign_marks s m.positive) (marked_set signs m)
marked_set-set signs v s m lt = split (true_or_false (nat_eq v m.var))
  where
    split : (nat_eq v m.var ≡ true) ⊎ (nat_eq v m.var ≡ false) → marked_set (set signs v s) m ≡ cond (nat_eq v m.var) (sign_marks s m.positive) (marked_set signs m)
    split (inl e) = rw (e, sym (eqb-true v m.var e)) (ap (λ x. sign_marks x m.positive) (get_or-set_same signs v s Absent lt))
    split (inr e) =
        let other : m.var ≢ v = λ h. never (subst (λ w. nat_eq v w ≡ true) (sym h) (nat_eq_equiv.refl v)) e in
        rw e (ap (λ x. sign_marks x m.positive) (get_or-set_other signs v m.var s Absent other))

pub erased : (signs : List Sign) (v : ℕ) → v < length signs → marked_set (set signs v Absent) ≡ without (marked_set signs) v
erased signs v lt = fun_ext (λ m. marked_set-set signs v Absent m lt ∙ turn (nat_eq v m.var) (nat_eq m.var v) (marked_set signs m) (nat_eq_equiv.symm v m.var))
  where
    turn : (p q b : Bool) → p ≡ q → cond p false b ≡ (b && not q)
    turn true true true e = refl
    turn true true false e = refl
    turn false false true e = refl
    turn false false false e = refl
    turn true false b e = cc
    turn false true b e = cc

stands-signed : (p q : Bool) → sign_marks (sign_for p) q ≡ sign_eq p q
stands-signed true q = refl
stands-signed false q = refl

pub unite_more : (old signs : List Sign) (c : List Lit) (i : ℕ) (d : Lit) → i < length c → (get_or c i d).var < length signs → is_clause c ≡ true → AreApart (marked_set old) (has c)
    → marked_set signs ≡ union (marked_set old) (has (take i c)) → marked_set (set signs (get_or c i d).var (sign_for (get_or c i d).positive)) ≡ union (marked_set old) (has (take (i + 1) c))
unite_more old signs c i d lt within h apart e =
    fun_ext (λ m. marked_set-set signs (get_or c i d).var (sign_for (get_or c i d).positive) m within ∙ at m (true_or_false (nat_eq (get_or c i d).var m.var)))
  where
    here : (s a b : Bool) → (s ≡ false → a ≡ false) → b ≡ false → s ≡ (a || (b || s))
    here s a true f g = cc
    here s false false f g = refl
    here true true false f g = refl
    here false true false f g = sym (f refl)

    joined : (n st s a b hm mk : Bool) → n ≡ true → st ≡ s → (s ≡ false → a ≡ false) → b ≡ false → hm ≡ (b || (n && s)) → cond n st mk ≡ (a || hm)
    joined true st s a b hm mk n0 is f g more = is ∙ here s a b f g ∙ ap (λ x. a || x) (sym more)
    joined false st s a b hm mk n0 is f g more = cc

    kept : (n st s a b hm mk : Bool) → n ≡ false → mk ≡ (a || b) → hm ≡ (b || (n && s)) → cond n st mk ≡ (a || hm)
    kept true st s a b hm mk n0 is more = cc
    kept false st s a b hm mk n0 is more = is ∙ ap (λ x. a || x) (sym (more ∙ or_nothing b))

    none_opposed : marked_set old (opposite (get_or c i d)) ≡ false
    none_opposed = pick (true_or_false (marked_set old (opposite (get_or c i d))))
      where
        pick : (marked_set old (opposite (get_or c i d)) ≡ true) ⊎ (marked_set old (opposite (get_or c i d)) ≡ false) → marked_set old (opposite (get_or c i d)) ≡ false
        pick (inl t) = absurd (apart (get_or c i d) (t, has-at c i d lt))
        pick (inr f) = f

    at : (m : Lit) → (nat_eq (get_or c i d).var m.var ≡ true) ⊎ (nat_eq (get_or c i d).var m.var ≡ false)
        → cond (nat_eq (get_or c i d).var m.var) (sign_marks (sign_for (get_or c i d).positive) m.positive) (marked_set signs m) ≡ (marked_set old m || has (take (i + 1) c) m)
    at m (inl s) =
        let var : (get_or c i d).var ≡ m.var = eqb-true (get_or c i d).var m.var s in
        joined (nat_eq (get_or c i d).var m.var) (sign_marks (sign_for (get_or c i d).positive) m.positive) (sign_eq (get_or c i d).positive m.positive) (marked_set old m) (has (take i c) m) (has (take (i + 1) c) m) (marked_set signs m) s (stands-signed (get_or c i d).positive m.positive)
        (λ f. subst (λ l. marked_set old l ≡ false) (lit_of (get_or c i d).var m.var (not (get_or c i d).positive) m.positive var (sym (other_signs (get_or c i d).positive m.positive f))) none_opposed)
        (has-mentions (take i c) m (subst (λ w. mentions (take i c) w ≡ false) var (once-before c i d lt h)))
        (has-more c i d m lt)
    at m (inr s) =
        kept (nat_eq (get_or c i d).var m.var) (sign_marks (sign_for (get_or c i d).positive) m.positive) (sign_eq (get_or c i d).positive m.positive) (marked_set old m) (has (take i c) m) (has (take (i + 1) c) m) (marked_set signs m) s (ap (λ f. f m) e) (has-more c i d m lt)

-- after the variable is taken out, nothing clashes any more
pub apart_erased : (signs : List Sign) (b : LitSet) (v : ℕ) → v < length signs → ClashesOnce (marked_set signs) b v → AreApart (marked_set (set signs v Absent)) b
apart_erased signs b v lt once m h =
    let gone : (marked_set signs (opposite m) && not (nat_eq m.var v)) ≡ true = sym (ap (λ f. f (opposite m)) (erased signs v lt)) ∙ h.0 in
    never (eq-eqb m.var v (once.1 m (and_left _ _ gone, h.1))) (not_true _ (and_right _ _ gone))

pub resolved : (signs mid : List Sign) (b : LitSet) (v : ℕ) → v < length signs → length mid ≡ length signs → marked_set mid ≡ union (marked_set (set signs v Absent)) b
    → marked_set (set mid v Absent) ≡ without (union (marked_set signs) b) v
resolved signs mid b v lt same e =
    erased mid v (rw same lt) ∙ ap (λ f. without f v) (e ∙ ap (λ f. union f b) (erased signs v lt)) ∙ fun_ext (λ l. turn (marked_set signs l) (b l) (not (nat_eq l.var v)))
  where
    turn : (x y n : Bool) → (((x && n) || y) && n) ≡ ((x || y) && n)
    turn true y true = refl
    turn true y false = both_false y
      where
        both_false : (y : Bool) → (y && false) ≡ false
        both_false true = refl
        both_false false = refl
    turn false y n = refl
