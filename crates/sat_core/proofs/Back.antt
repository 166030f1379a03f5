-- One step of the walk back, and its end.
use Rattle.std.proofs.Common.{◌≡◌, ◌≢◌, ℕ, zero, suc, ◌+◌, ◌<◌, ◌≤◌, Bool, true, false, ◌||◌, nat_eq, List, [], ◌∷◌, ◌++◌, length, take, slice_get, Some, None, refl, sym, ap, ◌∙◌, subst, ◌⊎◌, inl, inr, arith}
use Rattle.std.specs.Cmp.{nat_eq_equiv}
use Rattle.clause_store.specs.declared.lit.Lit.{Lit}
use Rattle.clause_store.specs.Clauses.{has, is_clause, mentions, lit_eq, opposite}
use Rattle.clause_store.specs.Chained.{LitSet, ClashesOnce, union, without, Derives, IsChained}
use Rattle.clause_store.proofs.Sets.{never, or_first, or_left, or_right, or_nothing, or_turn, true_or_false, itself}
use Rattle.clause_store.proofs.Refutation.{same_or_opposite}
use Rattle.clause_store.proofs.Chains.{resolves-more}
use Rattle.sat_core.specs.declared.trail.Entry.{Entry}
use Rattle.sat_core.specs.Assignments.{IsUnit, IsFresh, is_false}
use Rattle.sat_core.specs.Scanned.{IsFalseUnder, and_lit}
use Rattle.sat_core.specs.Solving.{lits_of, HasEmpty}
use Rattle.sat_core.specs.Trail.{IsTrail, IsImplied}
use Rattle.sat_core.specs.Walked.{IsWalking, IsWalked}
use Rattle.sat_core.proofs.Pushed.{some_same, none_some, take_all}
use Rattle.sat_core.proofs.Entries.{any_place, place_any, false_list, false_set}
use Rattle.sat_core.proofs.Learned.{once_plain, reason_clashes, resolvent_false, passed_over, still_involved, learned_unit}

pub has-next : (t : List Entry) (k : ℕ) (e : Entry) (m : Lit) → slice_get t k ≡ Some e → has (lits_of (take (k + 1) t)) m ≡ (has (lits_of (take k t)) m || lit_eq e.lit m)
has-next [] k e m get = absurd (none_some get)
has-next (x ∷ t) zero e m get = or_nothing (lit_eq x.lit m) ∙ ap (λ y. lit_eq y.lit m) (some_same get)
has-next (x ∷ t) (suc k) e m get =
    let f : suc k + 1 ≡ suc (k + 1) = omega arith in
    rw f (ap (λ b. lit_eq x.lit m || b) (has-next t k e m get) ∙ or_turn (lit_eq x.lit m) (has (lits_of (take k t)) m) (lit_eq e.lit m))

pub mentions-shorter : (t : List Entry) (k n v : ℕ) → k ≤ n → mentions (lits_of (take n t)) v ≡ false → mentions (lits_of (take k t)) v ≡ false
mentions-shorter t zero n v le h = refl
mentions-shorter [] (suc k) n v le h = refl
mentions-shorter (x ∷ t) (suc k) zero v le h = absurd (omega (arith, le))
mentions-shorter (x ∷ t) (suc k) (suc n) v le h = both (nat_eq x.lit.var v) (mentions (lits_of (take k t)) v) (or_left (nat_eq x.lit.var v) (mentions (lits_of (take n t)) v) h) (mentions-shorter t k n v (omega (arith, le)) (or_right (nat_eq x.lit.var v) (mentions (lits_of (take n t)) v) h))
  where
    both : (a b : Bool) → a ≡ false → b ≡ false → (a || b) ≡ false
    both false b e f = f
    both true b e f = e

none_mentions : (t : List Entry) (v : ℕ) → ((k : ℕ) (e : Entry) → slice_get t k ≡ Some e → nat_eq e.lit.var v ≡ false) → mentions (lits_of t) v ≡ false
none_mentions [] v h = refl
none_mentions (x ∷ t) v h = both (nat_eq x.lit.var v) (mentions (lits_of t) v) (h 0 x refl) (none_mentions t v (λ k e get. h (suc k) e get))
  where
    both : (a b : Bool) → a ≡ false → b ≡ false → (a || b) ≡ false
    both false b e f = f
    both true b e f = e

pub once_free : (t : List Entry) → ((k : ℕ) (e : Entry) → slice_get t k ≡ Some e → mentions (lits_of (take k t)) e.lit.var ≡ false) → is_clause (lits_of t) ≡ true
once_free [] h = refl
once_free (x ∷ t) h =
    let gone : mentions (lits_of t) x.lit.var ≡ false = none_mentions t x.lit.var (λ k e get. nat_eq_equiv.symm e.lit.var x.lit.var ∙ or_left (nat_eq x.lit.var e.lit.var) (mentions (lits_of (take k t)) e.lit.var) (h (suc k) e get)) in
    rw gone (once_free t (λ k e get. or_right (nat_eq x.lit.var e.lit.var) (mentions (lits_of (take k t)) e.lit.var) (h (suc k) e get)))

-- an item of the first n
pub record InTake {X : Type 0} (xs : List X) (n k : ℕ) (x : X) : Type 0 where
  pub within : k < n
  pub here : slice_get xs k ≡ Some x
  pub prefix : take k (take n xs) ≡ take k xs

pub in_take : {X : Type 0} (xs : List X) (n k : ℕ) (x : X) → slice_get (take n xs) k ≡ Some x → InTake xs n k x
in_take [] zero k x get = absurd (none_some get)
in_take [] (suc n) k x get = absurd (none_some get)
in_take (y ∷ xs) zero k x get = absurd (none_some get)
in_take (y ∷ xs) (suc n) zero x get = record { within = omega arith; here = get; prefix = refl }
in_take (y ∷ xs) (suc n) (suc k) x get =
    let r = in_take xs n k x get in
    let lt = r.within in
    record { within = omega (arith, lt); here = r.here; prefix = ap (λ z. y ∷ z) r.prefix }

pub once_trail : (cs : List (List Lit)) (t : List Entry) (starts : List ℕ) (n : ℕ) → IsTrail cs t starts → is_clause (lits_of (take n t)) ≡ true
once_trail cs t starts n h = once_free (take n t) (λ k e get. let r = in_take t n k e get in rw r.prefix (h.free k e r.here))

begins_push : (cs : List (List Lit)) (ids : List ℕ) (c : LitSet) (j : ℕ) (b : List Lit) (v : ℕ) → 0 < length ids → Derives cs ids c → slice_get cs j ≡ Some b → ClashesOnce c (has b) v → Derives cs (ids ++ j ∷ []) (without (union c (has b)) v)
begins_push cs [] c j b v pos h get one = absurd (omega (arith, pos))
begins_push cs (i ∷ ids) c j b v pos h get one = (h.0, h.1, resolves-more cs ids (has h.0) c j b v h.2 get one)

once_one : (c : List Lit) (l m : Lit) → is_clause c ≡ true → has c l ≡ true → has c m ≡ true → m.var ≡ l.var → m ≡ l
once_one c l m h a b e = pick (same_or_opposite m l e)
  where
    pick : (m ≡ l) ⊎ (m ≡ opposite l) → m ≡ l
    pick (inl f) = f
    pick (inr f) = absurd (once_plain c l h a (subst (λ x. has c x ≡ true) f b))

-- what the trail says of an entry with a reason
pub reason_unit : (cs : List (List Lit)) (t : List Entry) (starts : List ℕ) (at i : ℕ) (e : Entry) (c : List Lit) → IsTrail cs t starts → slice_get t at ≡ Some e → e.reason ≡ Some i → slice_get cs i ≡ Some c → IsUnit (lits_of (take at t)) c e.lit
reason_unit cs t starts at i e c tr get why here =
    let w = subst (λ r. IsImplied cs (lits_of (take at t)) e.lit r) why (tr.implied at e get) in
    subst (λ x. IsUnit (lits_of (take at t)) x e.lit) (some_same (sym w.1 ∙ here)) w.2

not_start : (cs : List (List Lit)) (t : List Entry) (starts : List ℕ) (at i : ℕ) (e : Entry) (j k : ℕ) → IsTrail cs t starts → slice_get t at ≡ Some e → e.reason ≡ Some i → slice_get starts j ≡ Some k → k < at + 1 → k < at
not_start cs t starts at i e j k tr get why here lt = split (order k at lt)
  where
    order : (k at : ℕ) → k < at + 1 → (k < at) ⊎ (k ≡ at)
    order k at lt = grind arith

    split : (k < at) ⊎ (k ≡ at) → k < at
    split (inl x) = x
    split (inr x) = absurd (none_some (sym ((tr.decided at e get).1 (place_any starts j at (here ∙ ap (λ y. Some y) x))) ∙ why))

pub with_entry : (t : List Entry) (at : ℕ) (e : Entry) (cur : LitSet) → slice_get t at ≡ Some e → IsFalseUnder (has (lits_of (take (at + 1) t))) cur → IsFalseUnder (and_lit (has (lits_of (take at t))) e.lit) cur
with_entry t at e cur get h m g = sym (has-next t at e (opposite m) get) ∙ h m g

pub walk_passed : (cs : List (List Lit)) (t : List Entry) (starts : List ℕ) (at i : ℕ) (e : Entry) (ids : List ℕ) (cur : LitSet) → IsTrail cs t starts → slice_get t at ≡ Some e → e.reason ≡ Some i → cur (opposite e.lit) ≡ false
    → IsWalking cs t starts (at + 1) ids cur → IsWalking cs t starts at ids cur
walk_passed cs t starts at i e ids cur tr get why gone h =
    record {
      some = h.some;
      begins = h.begins;
      all_false = passed_over (has (lits_of (take at t))) e.lit cur (with_entry t at e cur get h.all_false) gone;
      before = λ j k here. not_start cs t starts at i e j k tr get why here (h.before j k here);
      involved = h.involved;
    }

pub walk_resolved : (cs : List (List Lit)) (t : List Entry) (starts : List ℕ) (at i : ℕ) (e : Entry) (c : List Lit) (ids : List ℕ) (cur new : LitSet) (v : ℕ) → IsTrail cs t starts → slice_get t at ≡ Some e → e.reason ≡ Some i
    → slice_get cs i ≡ Some c → is_clause c ≡ true → cur (opposite e.lit) ≡ true → ClashesOnce cur (has c) v → new ≡ without (union cur (has c)) v → IsWalking cs t starts (at + 1) ids cur → IsWalking cs t starts at (ids ++ i ∷ []) new
walk_resolved cs t starts at i e c ids cur new v tr get why here plain opp clash is h =
    record {
      some = longer ids h.some;
      begins = subst (Derives cs (ids ++ i ∷ [])) (sym is) (begins_push cs ids cur i c v h.some h.begins here clash);
      all_false = subst (IsFalseUnder (has (lits_of (take at t)))) (sym same) (resolvent_false (lits_of (take at t)) c e.lit cur unit all);
      before = before;
      involved = λ j k start. subst (λ x. ¬ (IsFalseUnder (has (lits_of (take k t))) x)) (sym same)
          (let low = before j k start in
          still_involved (lits_of (take k t)) c cs i e.lit cur (tr.rest j k start) here unit.here (mentions-shorter t k at e.lit.var (omega (arith, low)) (tr.free at e get)) (λ m g w. once_one c e.lit m plain unit.here g w));
    }
  where
    unit : IsUnit (lits_of (take at t)) c e.lit
    unit = reason_unit cs t starts at i e c tr get why here

    all : IsFalseUnder (and_lit (has (lits_of (take at t))) e.lit) cur
    all = with_entry t at e cur get h.all_false

    same : new ≡ without (union cur (has c)) e.lit.var
    same = is ∙ ap (λ w. without (union cur (has c)) w) (sym (clash.1 e.lit (opp, unit.here)))

    before : (j k : ℕ) → slice_get starts j ≡ Some k → k < at
    before j k start = not_start cs t starts at i e j k tr get why start (h.before j k start)

    longer : (xs : List ℕ) → 0 < length xs → 0 < length (xs ++ i ∷ [])
    longer [] lt = omega arith
    longer (x ∷ xs) lt = omega arith

-- the walk stops at a decision
pub walk_decided : (cs : List (List Lit)) (t : List Entry) (starts : List ℕ) (at : ℕ) (e : Entry) (ids : List ℕ) (cur : LitSet) → IsTrail cs t starts → slice_get t at ≡ Some e → e.reason ≡ None → IsWalking cs t starts (at + 1) ids cur → IsWalked cs t starts ids at cur
walk_decided cs t starts at e ids cur tr get why h =
    let place = any_place starts at ((tr.decided at e get).0 why) in
    record {
      some = h.some;
      begins = h.begins;
      at_zero = λ none. absurd (none_some (subst (λ xs. slice_get xs place.0 ≡ Some at) none place.1));
      above = λ _. record {
        start = at;
        within = omega arith;
        lit = e.lit;
        rest = tr.rest place.0 at place.1;
        free = tr.free at e get;
        with_lit = with_entry t at e cur get h.all_false;
        involved = h.involved place.0 at place.1;
      };
    }

get_first : (xs : List ℕ) → 0 < length xs → (k : ℕ) × (slice_get xs 0 ≡ Some k)
get_first [] lt = absurd (omega (arith, lt))
get_first (x ∷ xs) lt = (x, refl)

pub walk_ended : (cs : List (List Lit)) (t : List Entry) (starts : List ℕ) (ids : List ℕ) (cur : LitSet) → IsWalking cs t starts 0 ids cur → IsWalked cs t starts ids 0 cur
walk_ended cs t starts ids cur h =
    record {
      some = h.some;
      begins = h.begins;
      at_zero = λ none l. nothing_left l (true_or_false (cur l));
      above = λ lt. let w = get_first starts lt in let low = h.before 0 w.0 w.1 in absurd (omega (arith, low));
    }
  where
    nothing_left : (l : Lit) → (cur l ≡ true) ⊎ (cur l ≡ false) → cur l ≡ false
    nothing_left l (inl f) = never (h.all_false l f) refl
    nothing_left l (inr f) = f

-- what the walk gives is new
pub walked_fresh : (cs : List (List Lit)) (t : List Entry) (starts ids : List ℕ) (at : ℕ) (c : List Lit) (cur : LitSet) → IsTrail cs t starts → has c ≡ cur → IsWalked cs t starts ids at cur → 0 < length starts → IsFresh cs c
walked_fresh cs t starts ids at c cur tr is h lt =
    let a = h.above lt in
    record {
      under = lits_of (take a.start t);
      once = once_trail cs t starts a.start tr;
      lit = opposite a.lit;
      unit = learned_unit (lits_of (take a.start t)) c a.lit a.free (subst (IsFalseUnder (and_lit (has (lits_of (take a.start t))) a.lit)) (sym is) a.with_lit) (subst (λ x. ¬ (IsFalseUnder (has (lits_of (take a.start t))) x)) (sym is) a.involved);
      rest = a.rest;
    }

pub empty_has : (c : List Lit) → ((l : Lit) → has c l ≡ false) → c ≡ []
empty_has [] h = refl
empty_has (l ∷ c) h = never (or_first (lit_eq l l) (has c l) (itself l)) (h l)

-- and has at least two ids
pub walked_chained : (cs : List (List Lit)) (t : List Entry) (starts ids : List ℕ) (at : ℕ) (c : List Lit) (cur : LitSet) → IsTrail cs t starts → ¬ (HasEmpty cs) → has c ≡ cur → IsWalked cs t starts ids at cur → IsChained cs ids c
walked_chained cs t starts ids at c cur tr full is h = (two ids h.some h.begins, subst (Derives cs ids) (sym is) h.begins)
  where
    -- no clause of the store is the set
    no_clause : (i : ℕ) (b : List Lit) → slice_get cs i ≡ Some b → has b ≡ cur → ⊥
    no_clause i b get e = cases starts refl
      where
        cases : (s : List ℕ) → starts ≡ s → ⊥
        cases [] f = full (i, get ∙ ap (λ x. Some x) (empty_has b (λ l. ap (λ g. g l) e ∙ h.at_zero f l)))
        cases (x ∷ s) f =
            let lt : 0 < length starts = rw f (omega arith) in
            let a = h.above lt in
            a.rest.none_unit i b get (opposite a.lit) (learned_unit (lits_of (take a.start t)) b a.lit a.free (subst (IsFalseUnder (and_lit (has (lits_of (take a.start t))) a.lit)) (sym e) a.with_lit) (subst (λ x. ¬ (IsFalseUnder (has (lits_of (take a.start t))) x)) (sym e) a.involved))

    two : (ids : List ℕ) → 0 < length ids → Derives cs ids cur → 2 ≤ length ids
    two [] lt b = absurd (omega (arith, lt))
    two (i ∷ []) lt b = absurd (no_clause i b.0 b.1 b.2)
    two (i ∷ (j ∷ ids)) lt b = omega arith

pub reason_here : (cs : List (List Lit)) (t : List Entry) (starts : List ℕ) (at i : ℕ) (e : Entry) → IsTrail cs t starts → slice_get t at ≡ Some e → e.reason ≡ Some i → (c : List Lit) × (slice_get cs i ≡ Some c)
reason_here cs t starts at i e tr get why =
    let w = subst (λ r. IsImplied cs (lits_of (take at t)) e.lit r) why (tr.implied at e get) in
    (w.0, w.1)

-- so the resolution doesn't fail
pub reason_resolves : (cs : List (List Lit)) (t : List Entry) (starts : List ℕ) (at i : ℕ) (e : Entry) (c : List Lit) (ids : List ℕ) (cur : LitSet) (b : Bool) → IsTrail cs t starts → slice_get t at ≡ Some e → e.reason ≡ Some i
    → slice_get cs i ≡ Some c → cur (opposite e.lit) ≡ true → IsWalking cs t starts (at + 1) ids cur → (b ≡ false → ¬ ((v : ℕ) × ClashesOnce cur (has c) v)) → b ≡ true
reason_resolves cs t starts at i e c ids cur true tr get why here opp h no1 = refl
reason_resolves cs t starts at i e c ids cur false tr get why here opp h no1 =
    absurd (no1 refl (e.lit.var, reason_clashes (lits_of (take at t)) c e.lit cur (once_trail cs t starts at tr) (reason_unit cs t starts at i e c tr get why here) (with_entry t at e cur get h.all_false) opp))

-- the walk begins with a false clause
pub walk_starts : (cs : List (List Lit)) (t : List Entry) (starts : List ℕ) (i : ℕ) (c : List Lit) (cur : LitSet) → IsTrail cs t starts → slice_get cs i ≡ Some c → is_false (lits_of t) c ≡ true → has c ≡ cur → IsWalking cs t starts (length t) (i ∷ []) cur
walk_starts cs t starts i c cur tr get h is =
    record {
      some = omega arith;
      begins = (c, get, is);
      all_false = subst (IsFalseUnder (has (lits_of (take (length t) t)))) is (rw (take_all t) (false_set (lits_of t) c h));
      before = tr.within;
      involved = λ j k start all. never (false_list (lits_of (take k t)) c (subst (IsFalseUnder (has (lits_of (take k t)))) (sym is) all)) ((tr.rest j k start).none_false i c get);
    }

pub walked_new : (cs : List (List Lit)) (t : List Entry) (starts ids : List ℕ) (at : ℕ) (c : List Lit) (cur : LitSet) → IsTrail cs t starts → has c ≡ cur → IsWalked cs t starts ids at cur → c ≢ [] → IsFresh cs c
walked_new cs t starts ids at c cur tr is h some = cases starts refl
  where
    cases : (s : List ℕ) → starts ≡ s → IsFresh cs c
    cases [] f = absurd (some (empty_has c (λ l. ap (λ g. g l) is ∙ h.at_zero f l)))
    cases (x ∷ s) f = walked_fresh cs t starts ids at c cur tr is h (rw f (omega arith))
