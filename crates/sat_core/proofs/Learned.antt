-- Why the clauses of a trail's reasons chain, and why what they give is new.
use Rattle.std.proofs.Common.{◌≡◌, ◌≢◌, ℕ, Bool, true, false, not, ◌||◌, nat_eq, List, [], ◌∷◌, refl, sym, ap, ◌∙◌, subst, ◌⊎◌, inl, inr, eqb-true, eq-eqb, slice_get, Some}
use Rattle.clause_store.specs.declared.lit.Lit.{Lit}
use Rattle.clause_store.specs.Clauses.{has, is_clause, mentions, lit_eq, opposite}
use Rattle.clause_store.specs.Chained.{LitSet, Clashes, ClashesOnce, union, without}
use Rattle.clause_store.proofs.Sets.{never, or_cases, or_second, and_left, and_right, not_true, true_or_false, same, same_var, itself, has-mentions}
use Rattle.clause_store.proofs.Refutation.{opposite_twice}
use Rattle.sat_core.specs.Assignments.{IsUnit, IsAtRest}
use Rattle.sat_core.specs.Scanned.{and_lit}

-- every literal of the set is false
abbrev pub AllFalse : LitSet → LitSet → Type 0
AllFalse p a = (m : Lit) → a m ≡ true → p (opposite m) ≡ true

pub once_plain : (p : List Lit) (m : Lit) → is_clause p ≡ true → has p m ≡ true → has p (opposite m) ≡ true → ⊥
once_plain [] m h a b = never a refl
once_plain (l ∷ p) m h a b = split (or_cases _ _ a) (or_cases _ _ b) (once_plain p m (and_right _ _ h))
  where
    gone : (x : Lit) → l.var ≡ x.var → has p x ≡ false
    gone x e = has-mentions p x (subst (λ v. mentions p v ≡ false) e (not_true _ (and_left _ _ h)))

    signs : (b : Bool) → b ≡ not b → ⊥
    signs true e = never refl e
    signs false e = never {b = true} refl (sym e)

    split : (lit_eq l m ≡ true) ⊎ (has p m ≡ true) → (lit_eq l (opposite m) ≡ true) ⊎ (has p (opposite m) ≡ true) → (has p m ≡ true → has p (opposite m) ≡ true → ⊥) → ⊥
    split (inl x) (inl y) next = signs m.positive (ap (λ k. k.positive) (sym (same l m x) ∙ same l (opposite m) y))
    split (inl x) (inr y) next = never y (gone (opposite m) (same_var l m x))
    split (inr x) (inl y) next = never x (gone m (same_var l (opposite m) y))
    split (inr x) (inr y) next = next x y

not_same : (l m : Lit) → lit_eq l m ≡ false → l ≢ m
not_same l m e h = never (itself l) (subst (λ x. lit_eq l x ≡ false) (sym h) e)

-- the set is false under the trail up to this entry, and has the entry's opposite: the reason clashes there alone
pub reason_clashes : (p c : List Lit) (l : Lit) (cur : LitSet) → is_clause p ≡ true → IsUnit p c l → AllFalse (and_lit (has p) l) cur → cur (opposite l) ≡ true → ClashesOnce cur (has c) l.var
reason_clashes p c l cur plain unit all at = ((l, refl, (at, unit.here)), λ m h. one m h (true_or_false (lit_eq m l)))
  where
    one : (m : Lit) → Clashes cur (has c) m → (lit_eq m l ≡ true) ⊎ (lit_eq m l ≡ false) → m.var ≡ l.var
    one m h (inl e) = same_var m l e
    one m h (inr e) = two (or_cases _ _ (subst (λ x. and_lit (has p) l x ≡ true) (opposite_twice m) (all (opposite m) h.0)))
      where
        two : (has p m ≡ true) ⊎ (lit_eq l m ≡ true) → m.var ≡ l.var
        two (inl x) = absurd (once_plain p m plain x (unit.others m h.1 (not_same m l e)))
        two (inr y) = sym (same_var l m y)

-- and the resolvent is false under what stands before the entry
pub resolvent_false : (p c : List Lit) (l : Lit) (cur : LitSet) → IsUnit p c l → AllFalse (and_lit (has p) l) cur → AllFalse (has p) (without (union cur (has c)) l.var)
resolvent_false p c l cur unit all m h = split (or_cases _ _ (and_left _ _ h))
  where
    apart : m.var ≡ l.var → ⊥
    apart e = never (eq-eqb m.var l.var e) (not_true (nat_eq m.var l.var) (and_right (cur m || has c m) (not (nat_eq m.var l.var)) h))

    split : (cur m ≡ true) ⊎ (has c m ≡ true) → has p (opposite m) ≡ true
    split (inl x) = pick (or_cases _ _ (all m x))
      where
        pick : (has p (opposite m) ≡ true) ⊎ (lit_eq l (opposite m) ≡ true) → has p (opposite m) ≡ true
        pick (inl y) = y
        pick (inr y) = absurd (apart (sym (same_var l (opposite m) y)))
    split (inr y) = unit.others m y (λ e. apart (ap (λ k. k.var) e))

-- an entry whose opposite isn't in the set is passed over
pub passed_over : (p : LitSet) (l : Lit) (cur : LitSet) → AllFalse (and_lit p l) cur → cur (opposite l) ≡ false → AllFalse p cur
passed_over p l cur all gone m h = pick (or_cases _ _ (all m h))
  where
    pick : (p (opposite m) ≡ true) ⊎ (lit_eq l (opposite m) ≡ true) → p (opposite m) ≡ true
    pick (inl y) = y
    pick (inr y) = never h (subst (λ x. cur x ≡ false) (ap opposite (same l (opposite m) y) ∙ opposite_twice m) gone)

-- under a trail at rest, a set that isn't all false stays so through a reason whose literal was free there
pub still_involved : (p c : List Lit) (cs : List (List Lit)) (i : ℕ) (l : Lit) (cur : LitSet) → IsAtRest p cs → slice_get cs i ≡ Some c → has c l ≡ true → mentions p l.var ≡ false
    → ((m : Lit) → has c m ≡ true → m.var ≡ l.var → m ≡ l) → ¬ (AllFalse (has p) (without (union cur (has c)) l.var))
still_involved p c cs i l cur rest get here free one all =
    rest.none_unit i c get l (record { here = here; free = free; others = λ m h other. all m (stays m h other (true_or_false (nat_eq m.var l.var))) })
  where
    stays : (m : Lit) → has c m ≡ true → m ≢ l → (nat_eq m.var l.var ≡ true) ⊎ (nat_eq m.var l.var ≡ false) → without (union cur (has c)) l.var m ≡ true
    stays m h other (inl e) = absurd (other (one m h (eqb-true m.var l.var e)))
    stays m h other (inr e) = rw (or_second (cur m) (has c m) h, e) refl

-- at the decision only its opposite is left: the clause is fresh
pub learned_unit : (p c : List Lit) (d : Lit) → mentions p d.var ≡ false → AllFalse (and_lit (has p) d) (has c) → ¬ (AllFalse (has p) (has c)) → IsUnit p c (opposite d)
learned_unit p c d free all some =
    record { here = here (true_or_false (has c (opposite d))); free = free; others = λ m h other. pick m other (or_cases _ _ (all m h)) }
  where
    here : (has c (opposite d) ≡ true) ⊎ (has c (opposite d) ≡ false) → has c (opposite d) ≡ true
    here (inl x) = x
    here (inr y) = absurd (some (passed_over (has p) d (has c) all y))

    pick : (m : Lit) → m ≢ opposite d → (has p (opposite m) ≡ true) ⊎ (lit_eq d (opposite m) ≡ true) → has p (opposite m) ≡ true
    pick m other (inl x) = x
    pick m other (inr y) = absurd (other (sym (ap opposite (same d (opposite m) y) ∙ opposite_twice m)))
