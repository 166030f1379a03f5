-- Going back less far, and stopping sooner.
use Rattle.std.proofs.Common.{◌≡◌, ◌≢◌, ℕ, zero, suc, ◌+◌, ◌<◌, ◌≤◌, Bool, true, false, ◌||◌, List, [], ◌∷◌, ◌++◌, take, get_or, slice_get, Some, ◌-◌, refl, sym, ap, ◌∙◌, subst, ◌⊎◌, inl, inr, arith}
use Rattle.clause_store.specs.declared.lit.Lit.{Lit}
use Rattle.clause_store.specs.Clauses.{has, mentions, opposite, lit_eq}
use Rattle.clause_store.specs.Chained.{LitSet}
use Rattle.clause_store.proofs.Sets.{never, has-mentions, or_second, itself}
use Rattle.sat_core.specs.declared.trail.Entry.{Entry}
use Rattle.sat_core.specs.Assignments.{IsUnit, IsAtRest, is_false}
use Rattle.sat_core.specs.Scanned.{IsFalseUnder, IsNeither, and_lit}
use Rattle.sat_core.specs.Solving.{lits_of}
use Rattle.sat_core.specs.Trail.{IsTrail}
use Rattle.sat_core.specs.Walked.{IsAsserting, IsWalking, IsWalked}
use Rattle.sat_core.proofs.Pushed.{Before, Last, one_more, none_some}
use Rattle.sat_core.proofs.Entries.{unit_set, not_false_list, mentions_has, place_within, get_some}
use Rattle.sat_core.proofs.OpenLits.{two_not}
use Rattle.sat_core.proofs.Back.{has-next, mentions-shorter, with_entry}
use Rattle.sat_core.proofs.Learned.{learned_unit, passed_over}

-- a trail at rest stays so where the new clause is neither false nor a unit
rest_more : (p : List Lit) (cs : List (List Lit)) (c : List Lit) → IsAtRest p cs → IsNeither (has p) (has c) → IsAtRest p (cs ++ c ∷ [])
rest_more p cs c rest h =
    record { none_false = λ i b get. false_at i b (one_more cs i b c get); none_unit = λ i b get. unit_at i b (one_more cs i b c get) }
  where
    false_at : (i : ℕ) (b : List Lit) → Before cs i b c ⊎ Last cs i b c → is_false p b ≡ false
    false_at i b (inl x) = rest.none_false i b x.here
    false_at i b (inr x) = subst (λ y. is_false p y ≡ false) (sym x.is) (not_false_list p c h.0)

    unit_at : (i : ℕ) (b : List Lit) → Before cs i b c ⊎ Last cs i b c → (l : Lit) → ¬ (IsUnit p b l)
    unit_at i b (inl x) = rest.none_unit i b x.here
    unit_at i b (inr x) = subst (λ y. (l : Lit) → ¬ (IsUnit p y l)) (sym x.is) (λ l u. h.1 l (unit_set p c l u))

-- before an entry whose opposite stands in the clause learned, the clause has two unassigned literals
pub kept_rest : (cs : List (List Lit)) (t : List Entry) (starts : List ℕ) (c : List Lit) (at j k q : ℕ) (e : Entry) → IsTrail cs t starts → (a : IsAsserting cs t at (has c)) → slice_get starts j ≡ Some k → k ≤ q → q < at
    → slice_get t q ≡ Some e → has c (opposite e.lit) ≡ true → IsAtRest (lits_of (take k t)) (cs ++ c ∷ [])
kept_rest cs t starts c at j k q e tr a start le lt get here =
    rest_more (lits_of (take k t)) cs c (tr.rest j k start) (two_not (has (lits_of (take k t))) (has c) (opposite a.lit) (opposite e.lit) apart unit.here here (none (opposite a.lit) free_lit) (none (opposite e.lit) free_e))
  where
    unit : IsUnit (lits_of (take a.start t)) c (opposite a.lit)
    unit = learned_unit (lits_of (take a.start t)) c a.lit a.free a.with_lit a.involved

    free_e : mentions (lits_of (take k t)) e.lit.var ≡ false
    free_e = mentions-shorter t k q e.lit.var le (tr.free q e get)

    free_lit : mentions (lits_of (take k t)) a.lit.var ≡ false
    free_lit = mentions-shorter t k a.start a.lit.var (let w = a.within in omega (arith, le, lt, w)) a.free

    none : (l : Lit) → mentions (lits_of (take k t)) l.var ≡ false → has (lits_of (take k t)) (opposite l) ≡ false
    none l f = has-mentions (lits_of (take k t)) (opposite l) f

    mentioned : mentions (lits_of (take (q + 1) t)) e.lit.var ≡ true
    mentioned = mentions_has (lits_of (take (q + 1) t)) e.lit (has-next t q e e.lit get ∙ or_second _ _ (itself e.lit))

    apart : opposite a.lit ≢ opposite e.lit
    apart f = never mentioned (mentions-shorter t (q + 1) a.start e.lit.var (let w = a.within in omega (arith, lt, w)) (subst (λ v. mentions (lits_of (take a.start t)) v ≡ false) (ap (λ l. l.var) f) a.free))

-- the stop at an entry, where no other entry from the start on has its opposite in the set
pub alone : (t : List Entry) (start n : ℕ) (l : Lit) (cur : LitSet) → ((k : ℕ) → k < start + n → (e : Entry) × (slice_get t k ≡ Some e)) → ((k : ℕ) (e : Entry) → start ≤ k → k < start + n → slice_get t k ≡ Some e → cur (opposite e.lit) ≡ false)
    → IsFalseUnder (and_lit (has (lits_of (take (start + n) t))) l) cur → IsFalseUnder (and_lit (has (lits_of (take start t))) l) cur
alone t start zero l cur there gone all = let e : start + 0 ≡ start = omega arith in subst (λ n. IsFalseUnder (and_lit (has (lits_of (take n t))) l) cur) e all
alone t start (suc n) l cur there gone all =
    let w = there (start + n) (omega arith) in
    let e : start + suc n ≡ start + n + 1 = omega arith in
    alone t start n l cur (λ k lt. there k (omega (arith, lt))) (λ k x le lt. gone k x le (omega (arith, lt)))
    (passed_over (and_lit (has (lits_of (take (start + n) t))) l) w.0.lit cur (λ m h. moved m w.0 w.1 (subst (λ i. and_lit (has (lits_of (take i t))) l (opposite m) ≡ true) e (all m h))) (gone (start + n) w.0 (omega arith) (omega arith) w.1))
  where
    turn : (a b s : Bool) → ((a || b) || s) ≡ true → ((a || s) || b) ≡ true
    turn true b s h = refl
    turn false true true h = refl
    turn false true false h = refl
    turn false false true h = refl
    turn false false false h = h

    moved : (m : Lit) (x : Entry) → slice_get t (start + n) ≡ Some x → and_lit (has (lits_of (take (start + n + 1) t))) l (opposite m) ≡ true → and_lit (and_lit (has (lits_of (take (start + n) t))) l) x.lit (opposite m) ≡ true
    moved m x get h = turn (has (lits_of (take (start + n) t)) (opposite m)) (lit_eq x.lit (opposite m)) (lit_eq l (opposite m)) (subst (λ b. (b || lit_eq l (opposite m)) ≡ true) (has-next t (start + n) x (opposite m) get) h)

pub walk_alone : (cs : List (List Lit)) (t : List Entry) (starts : List ℕ) (at j start : ℕ) (e : Entry) (ids : List ℕ) (cur : LitSet) → IsTrail cs t starts → slice_get t at ≡ Some e → slice_get starts j ≡ Some start → IsWalking cs t starts (at + 1) ids cur
    → ((k : ℕ) (x : Entry) → start ≤ k → k < at → slice_get t k ≡ Some x → cur (opposite x.lit) ≡ false) → IsWalked cs t starts ids start cur
walk_alone cs t starts at j start e ids cur tr get here h gone =
    record {
      some = h.some;
      begins = h.begins;
      at_zero = λ none. absurd (none_some (subst (λ xs. slice_get xs j ≡ Some start) none here));
      above = λ _. record {
        start = start;
        within = omega arith;
        lit = e.lit;
        rest = tr.rest j start here;
        free = mentions-shorter t start at e.lit.var low (tr.free at e get);
        with_lit = alone t start (at - start) e.lit cur (λ k lt. there k (subst (λ n. k < n) same lt)) (λ k x le lt. gone k x le (subst (λ n. k < n) same lt))
            (subst (λ n. IsFalseUnder (and_lit (has (lits_of (take n t))) e.lit) cur) (sym same) (with_entry t at e cur get h.all_false));
        involved = h.involved j start here;
      };
    }
  where
    low : start ≤ at
    low = let b = h.before j start here in omega (arith, b)

    same : start + (at - start) ≡ at
    same = omega (arith, low)

    there : (k : ℕ) → k < at → (x : Entry) × (slice_get t k ≡ Some x)
    there k lt = let w = place_within t at e get in (get_or t k e, get_some t k e (omega (arith, lt, w)))
