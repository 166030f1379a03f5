-- More room for variables, and what is assigned.
use Rattle.std.proofs.Common.{◌≡◌, not, ℕ, suc, ◌+◌, ◌<◌, ◌≤◌, Bool, true, false, ◌&&◌, ◌||◌, nat_eq, nat_lt, List, [], ◌∷◌, length, take, get_or, slice_get, Some, refl, sym, ◌∙◌, arith, ◌⊎◌, inl, inr, ltb-true, lt-ltb, eqb-true, IsTrue}
use Rattle.std.proofs.lemmas.List.{take_more}
use Rattle.clause_store.specs.declared.lit.Lit.{Lit}
use Rattle.clause_store.specs.Clauses.{has, is_within, are_within, mentions}
use Rattle.clause_store.proofs.Sets.{and_left, and_right, never, or_cases, true_or_false, within-append}
use Rattle.literal_signs.specs.declared.sign.Sign.{Sign}
use Rattle.literal_signs.specs.declared.sign.Sign.TheVariants.{Absent, Positive, Negative}
use Rattle.literal_signs.specs.Marked.{absents, marked_set, sign_marks}
use Rattle.sat_core.specs.declared.trail.Entry.{Entry}
use Rattle.sat_core.specs.declared.trail.LogStep.{LogStep}
use Rattle.sat_core.specs.Kept.{IsKept}
use Rattle.sat_core.specs.Passed.{AreAllAssigned}
use Rattle.sat_core.specs.Scanned.{AreAssigned}
use Rattle.sat_core.specs.Solving.{Solving, assigned, is_known, lits_of}
use Rattle.sat_core.proofs.Entries.{mentions_has, mentions-both}

var_within : (l : Lit) (m n : ℕ) → m ≤ n → nat_lt l.var m ≡ true → nat_lt l.var n ≡ true
var_within l m n le h = let lt = ltb-true l.var m h in lt-ltb l.var n (omega (arith, le, lt))

both : (a b : Bool) → a ≡ true → b ≡ true → (a && b) ≡ true
both true b e f = f
both false b e f = e

pub within_grows : (m n : ℕ) (c : List Lit) → m ≤ n → is_within m c ≡ true → is_within n c ≡ true
within_grows m n [] le h = refl
within_grows m n (l ∷ c) le h = both _ _ (var_within l m n le (and_left _ _ h)) (within_grows m n c le (and_right _ _ h))

pub are_within_grows : (m n : ℕ) (cs : List (List Lit)) → m ≤ n → are_within m cs ≡ true → are_within n cs ≡ true
are_within_grows m n [] le h = refl
are_within_grows m n (c ∷ cs) le h = both _ _ (within_grows m n c le (and_left _ _ h)) (are_within_grows m n cs le (and_right _ _ h))

pub within_step : (n : ℕ) (c : List Lit) (i : ℕ) (d : Lit) → i < length c → is_within n (take i c) ≡ true → (get_or c i d).var < n → is_within n (take (i + 1) c) ≡ true
within_step n c i d lt h at = rw (take_more c i d lt) (within-append n (take i c) (get_or c i d ∷ []) h (both _ _ (lt-ltb _ _ at) refl))

pub kept_grown : (cs : List (List Lit)) (t : List Entry) (starts : List ℕ) (log : List LogStep) (signs new : List Sign) → marked_set new ≡ marked_set signs → absents new + length signs ≡ absents signs + length new → length signs ≤ length new
    → IsKept (record { clauses = cs; trail = t; starts = starts; log = log; room = length signs }) signs
    → IsKept (record { clauses = cs; trail = t; starts = starts; log = log; room = length new }) new
kept_grown cs t starts log signs new same counted longer h =
    let count = h.count in
    record {
      solving = record { trail = h.solving.trail; log = h.solving.log; empty_last = h.solving.empty_last };
      marks = same ∙ h.marks;
      below = are_within_grows (length signs) (length new) cs longer h.below;
      count = omega (arith, count, counted);
    }

abbrev pub lit : ℕ → Bool → Lit
lit v b = record { var = v; positive = b }

pub mentions_either : (c : List Lit) (v : ℕ) → mentions c v ≡ (has c (lit v true) || has c (lit v false))
mentions_either c v = split (true_or_false (has c (lit v true))) (true_or_false (has c (lit v false)))
  where
    split : (has c (lit v true) ≡ true) ⊎ (has c (lit v true) ≡ false) → (has c (lit v false) ≡ true) ⊎ (has c (lit v false) ≡ false) → mentions c v ≡ (has c (lit v true) || has c (lit v false))
    split (inl e) g = mentions_has c (lit v true) e ∙ sym (rw e refl)
    split (inr e) (inl f) = mentions_has c (lit v false) f ∙ sym (rw (e, f) refl)
    split (inr e) (inr f) = mentions-both c (lit v true) e f ∙ sym (rw (e, f) refl)

pub mentions_at : (t : List Entry) (v : ℕ) → mentions (lits_of t) v ≡ true → (k : ℕ) × (e : Entry) × (slice_get t k ≡ Some e) × (e.lit.var ≡ v)
mentions_at [] v h = never h refl
mentions_at (x ∷ t) v h = split (or_cases _ _ h) (mentions_at t v)
  where
    split : (nat_eq x.lit.var v ≡ true) ⊎ (mentions (lits_of t) v ≡ true) → (mentions (lits_of t) v ≡ true → (k : ℕ) × (e : Entry) × (slice_get t k ≡ Some e) × (e.lit.var ≡ v))
        → (k : ℕ) × (e : Entry) × (slice_get (x ∷ t) k ≡ Some e) × (e.lit.var ≡ v)
    split (inl e) next = (0, x, refl, eqb-true x.lit.var v e)
    split (inr g) next = let w = next g in (suc w.0, w.1, w.2, w.3)

pub value_holds : (c : List Lit) (v : ℕ) (b : Bool) → mentions c v ≡ true → b ≡ has c (lit v true) → has c (lit v b) ≡ true
value_holds c v true h e = sym e
value_holds c v false h e = pick (or_cases _ _ (sym (mentions_either c v) ∙ h))
  where
    pick : (has c (lit v true) ≡ true) ⊎ (has c (lit v false) ≡ true) → has c (lit v false) ≡ true
    pick (inl f) = never f (sym e)
    pick (inr f) = f

-- the sign of a variable is not that of the literal which it doesn't tell
pub other_sign : (s : Sign) → sign_marks s (not (sign_marks s true)) ≡ false
other_sign Absent = refl
other_sign Positive = refl
other_sign Negative = refl

-- a variable that is known stands in the clause at some place
pub known_where : (cs : List (List Lit)) (v : ℕ) → is_known cs v ≡ true → (i : ℕ) × (c : List Lit) × (slice_get cs i ≡ Some c) × (mentions c v ≡ true)
known_where [] v h = never h refl
known_where (c ∷ cs) v h = split (or_cases _ _ h) (known_where cs v)
  where
    split : (mentions c v ≡ true) ⊎ (is_known cs v ≡ true) → (is_known cs v ≡ true → (i : ℕ) × (d : List Lit) × (slice_get cs i ≡ Some d) × (mentions d v ≡ true))
        → (i : ℕ) × (d : List Lit) × (slice_get (c ∷ cs) i ≡ Some d) × (mentions d v ≡ true)
    split (inl e) next = (0, c, refl, e)
    split (inr e) next = let w = next e in (suc w.0, w.1, w.2, w.3)

-- where all literals of a clause are assigned, so is each variable of it
pub named_assigned : (p c : List Lit) (v : ℕ) → AreAssigned (has p) (has c) → mentions c v ≡ true → mentions p v ≡ true
named_assigned p c v all h = pick (or_cases _ _ (sym (mentions_either c v) ∙ h))
  where
    of_lit : (b : Bool) → (has p (lit v b) ≡ true) ⊎ (has p (lit v (not b)) ≡ true) → mentions p v ≡ true
    of_lit b (inl e) = mentions_has p (lit v b) e
    of_lit b (inr e) = mentions_has p (lit v (not b)) e

    pick : (has c (lit v true) ≡ true) ⊎ (has c (lit v false) ≡ true) → mentions p v ≡ true
    pick (inl e) = of_lit true (all (lit v true) e)
    pick (inr e) = of_lit false (all (lit v false) e)

pub all_named : (s : Solving) → AreAllAssigned s → (v : ℕ) → IsTrue (is_known s.clauses v) → IsTrue (mentions (assigned s) v)
all_named s all v h = let w = known_where s.clauses v h in named_assigned (assigned s) w.1 v (all w.0 w.1 w.2) w.3
