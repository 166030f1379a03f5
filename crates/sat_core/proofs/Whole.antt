-- What a solver's state says as a whole.
use Rattle.std.proofs.Common.{◌≡◌, ◌≢◌, ℕ, ◌+◌, ◌-◌, ◌<◌, Bool, true, false, ◌&&◌, List, [], ◌∷◌, ◌++◌, length, take, drop, slice_get, Some, refl, sym, ap, ◌∙◌, subst, ◌⊎◌, inl, inr, arith, length-append, IsTrue, ◌≤◌}
use Rattle.std.proofs.lemmas.List.{append_assoc, append-nil, take-append-le}
use Rattle.clause_store.specs.Chained.{IsChained}
use Rattle.clause_store.specs.declared.lit.Lit.{Lit}
use Rattle.clause_store.specs.Clauses.{has, is_clause, opposite, lit_eq, is_within}
use Rattle.literal_signs.specs.declared.sign.Sign.{Sign}
use Rattle.clause_store.proofs.Sets.{never, or_first, or_second, true_or_false, itself}
use Rattle.sat_core.specs.declared.trail.Entry.{Entry}
use Rattle.sat_core.specs.Assignments.{IsAtRest, IsFresh, is_false}
use Rattle.sat_core.specs.Kept.{IsKept, AreSigned}
use Rattle.sat_core.specs.Passed.{HasOneMore, AreAllAssigned}
use Rattle.sat_core.specs.Solving.{AreLearned, Extends, HasEmpty, HasModel, KeepsAllButTrail, IsFurther, IsLog, IsModel, Solving, assigned, lits_of}
use Rattle.sat_core.proofs.Pushed.{Before, Last, one_more, take_all}
use Rattle.sat_core.proofs.Entries.{below_known}
use Rattle.sat_core.proofs.Reserved.{all_named}
use Rattle.sat_core.proofs.Cut.{last_at, clause_trail, empty_more, below_more}
use Rattle.sat_core.specs.declared.trail.LogStep.{LogStep}

pub kept_signed : (s : Solving) (signs : List Sign) → IsKept s signs → AreSigned s.trail signs
kept_signed s signs h =
    record {
      marks = h.marks;
      count = h.count;
      free = h.solving.trail.free;
      below = λ k e get. below_known (length signs) s.clauses e.lit.var h.below (h.solving.trail.known k e get);
    }

pub whole_back : {X : Type 0} (new old : List X) (n : ℕ) → length new ≡ n → take n (new ++ drop (length new) old) ≡ new
whole_back new old n e = take-append-le n new (drop (length new) old) (omega (arith, e)) ∙ ap (λ k. take k new) (sym e) ∙ take_all new

pub kept_more : (cs : List (List Lit)) (c : List Lit) (t : List Entry) (starts : List ℕ) (log new : List LogStep) (signs : List Sign)
    → IsKept (record { clauses = cs; trail = t; starts = starts; log = log; room = length signs }) signs → ¬ (HasEmpty cs) → is_within (length signs) c ≡ true
    → ((j k : ℕ) → slice_get starts j ≡ Some k → IsAtRest (lits_of (take k t)) (cs ++ c ∷ [])) → IsLog (cs ++ c ∷ []) new
    → IsKept (record { clauses = cs ++ c ∷ []; trail = t; starts = starts; log = new; room = length signs }) signs
kept_more cs c t starts log new signs h full low rest steps =
    record {
      solving = record { trail = clause_trail cs c t starts h.solving.trail rest; log = steps; empty_last = empty_more cs c full };
      marks = h.marks;
      below = below_more (length signs) cs c h.below low;
      count = h.count;
    }

some_true : (p c : List Lit) → is_false p c ≡ false → (l : Lit) × (has c l ≡ true) × (has p (opposite l) ≡ false)
some_true p [] h = never {b = true} refl h
some_true p (x ∷ c) h = pick (true_or_false (has p (opposite x))) (some_true p c)
  where
    pick : (has p (opposite x) ≡ true) ⊎ (has p (opposite x) ≡ false) → (is_false p c ≡ false → (l : Lit) × (has c l ≡ true) × (has p (opposite l) ≡ false)) → (l : Lit) × (has (x ∷ c) l ≡ true) × (has p (opposite l) ≡ false)
    pick (inl e) next = let w = next (drop_true (has p (opposite x)) (is_false p c) e h) in (w.0, or_second (lit_eq x w.0) (has c w.0) w.1, w.2)
      where
        drop_true : (a b : Bool) → a ≡ true → (a && b) ≡ false → b ≡ false
        drop_true true b e f = f
        drop_true false b e f = cc
    pick (inr e) next = (x, or_first (lit_eq x x) (has c x) (itself x), e)

pub all_true : (s : Solving) → IsAtRest (assigned s) s.clauses → AreAllAssigned s → HasModel s
all_true s rest all i c get =
    let w = some_true (assigned s) c (rest.none_false i c get) in
    (w.0, w.1, pick w.0 w.2 (all i c get w.0 w.1))
  where
    pick : (l : Lit) → has (assigned s) (opposite l) ≡ false → (has (assigned s) l ≡ true) ⊎ (has (assigned s) (opposite l) ≡ true) → has (assigned s) l ≡ true
    pick l f (inl e) = e
    pick l f (inr e) = never e f

learned_more : (cs mid ends : List (List Lit)) (steps : List LogStep) (new : LogStep) (c : List Lit) → AreLearned cs steps mid → new.place ≡ length mid → IsChained mid new.ids c → (c ≢ [] → IsFresh mid c) → ends ≡ mid ++ c ∷ []
    → AreLearned cs (steps ++ new ∷ []) ends
learned_more cs mid ends [] new c h place chained fresh e =
    subst (λ x. AreLearned x (new ∷ []) ends) (sym h) (c, place, chained, fresh, sym e)
learned_more cs mid ends (s ∷ steps) new c h place chained fresh e =
    (h.0, h.1, h.2, h.3, learned_more (cs ++ h.0 ∷ []) mid ends steps new c h.4 place chained fresh e)

pub extends_init : (a b : Solving) → KeepsAllButTrail a b → Extends a b
extends_init a b h = record { steps = []; log = h.log ∙ sym (append-nil a.log); learned = sym h.clauses }

pub extends_same : (a b c : Solving) → Extends a b → KeepsAllButTrail b c → Extends a c
extends_same a b c h s = record { steps = h.steps; log = s.log ∙ h.log; learned = subst (AreLearned a.clauses h.steps) (sym s.clauses) h.learned }

pub extends_one : (a b c : Solving) (e : Bool) → Extends a b → HasOneMore b c e → Extends a c
extends_one a b c e h o =
    record {
      steps = h.steps ++ new ∷ [];
      log = o.log ∙ ap (λ x. x ++ new ∷ []) h.log ∙ append_assoc a.log h.steps (new ∷ []);
      learned = learned_more a.clauses b.clauses c.clauses h.steps new o.clause h.learned refl o.chained o.fresh o.clauses;
    }
  where
    new : LogStep
    new = record { place = length b.clauses; ids = o.ids }

pub full_same : (b c : Solving) → KeepsAllButTrail b c → ¬ (HasEmpty b.clauses) → ¬ (HasEmpty c.clauses)
full_same b c s full w = full (w.0, subst (λ x. slice_get x w.0 ≡ Some []) s.clauses w.1)

pub full_more : (cs : List (List Lit)) (c : List Lit) → ¬ (HasEmpty cs) → c ≢ [] → ¬ (HasEmpty (cs ++ c ∷ []))
full_more cs c full some w = split (one_more cs w.0 [] c w.1)
  where
    split : Before cs w.0 [] c ⊎ Last cs w.0 [] c → ⊥
    split (inl x) = full (w.0, x.here)
    split (inr x) = some (sym x.is)

pub full_one : (b c : Solving) (e : Bool) → HasOneMore b c e → e ≡ false → ¬ (HasEmpty b.clauses) → ¬ (HasEmpty c.clauses)
full_one b c e o f full = subst (λ x. ¬ (HasEmpty x)) (sym o.clauses) (full_more b.clauses o.clause full (λ is. never (o.empty.1 is) f))

pub refuted_one : (b c : Solving) (e : Bool) → HasOneMore b c e → e ≡ true → (slice_get c.clauses (length c.clauses - 1) ≡ Some []) × (0 < length c.clauses)
refuted_one b c e o t = subst (λ x. (slice_get x (length x - 1) ≡ Some []) × (0 < length x)) (sym o.clauses) (there b.clauses o.clause (o.empty.0 t))
  where
    there : (xs : List (List Lit)) (x : List Lit) → x ≡ [] → (slice_get (xs ++ x ∷ []) (length (xs ++ x ∷ []) - 1) ≡ Some []) × (0 < length (xs ++ x ∷ []))
    there xs x e =
        let len : length (xs ++ x ∷ []) - 1 ≡ length xs = (let l = length-append xs (x ∷ []) in omega (arith, l)) in
        let pos = length-append xs (x ∷ []) in
        (rw len (last_at xs x ∙ ap (λ y. Some y) e), omega (arith, pos))

pub log_one : (b c : Solving) (e : Bool) → HasOneMore b c e → length c.log ≡ length b.log + 1
log_one b c e o = ap length o.log ∙ length-append b.log (record { place = length b.clauses; ids = o.ids } ∷ [])

pub model_of : (s : Solving) → IsAtRest (assigned s) s.clauses → AreAllAssigned s → IsTrue (is_clause (assigned s)) → IsModel s
model_of s rest all once = record { all_true = all_true s rest all; all_known = all_named s all; once = once }

prefix_push : {X : Type 0} (old xs : List X) (x : X) → take (length old) xs ≡ old → take (length old) (xs ++ x ∷ []) ≡ old
prefix_push old xs x e = take-append-le (length old) xs (x ∷ []) (longer old xs e) ∙ e
  where
    nothing_more : {A : Type 0} {y : A} {ys : List A} → [] ≡ y ∷ ys → ⊥
    nothing_more e = cc

    rest_same : {A : Type 0} {y z : A} {ys zs : List A} → y ∷ ys ≡ z ∷ zs → ys ≡ zs
    rest_same e = cc

    longer : {A : Type 0} (a b : List A) → take (length a) b ≡ a → length a ≤ length b
    longer [] b e = omega arith
    longer (y ∷ a) [] e = absurd (nothing_more e)
    longer (y ∷ a) (z ∷ b) e = let h = longer a b (rest_same e) in omega (arith, h)

pub take_whole : {X : Type 0} (xs : List X) → take (length xs) xs ≡ xs
take_whole xs = take_all xs

pub take_push : {X : Type 0} (xs : List X) (x : X) → take (length xs) (xs ++ x ∷ []) ≡ xs
take_push xs x = prefix_push xs xs x (take_all xs)

-- a prefix of a prefix
take_take : {X : Type 0} (a b c : List X) → take (length a) b ≡ a → take (length b) c ≡ b → take (length a) c ≡ a
take_take [] b c e f = refl
take_take (x ∷ a) [] c e f = absurd (none_left e)
  where
    none_left : {A : Type 0} {y : A} {ys : List A} → [] ≡ y ∷ ys → ⊥
    none_left e = cc
take_take (x ∷ a) (y ∷ b) [] e f = absurd (none_left f)
  where
    none_left : {A : Type 0} {y : A} {ys : List A} → [] ≡ y ∷ ys → ⊥
    none_left e = cc
take_take (x ∷ a) (y ∷ b) (z ∷ c) e f = joined (head_same f ∙ head_same e) (take_take a b c (rest_same e) (rest_same f))
  where
    head_same : {A : Type 0} {y z : A} {ys zs : List A} → y ∷ ys ≡ z ∷ zs → y ≡ z
    head_same e = cc

    rest_same : {A : Type 0} {y z : A} {ys zs : List A} → y ∷ ys ≡ z ∷ zs → ys ≡ zs
    rest_same e = cc

    joined : z ≡ x → take (length a) c ≡ a → z ∷ take (length a) c ≡ x ∷ a
    joined p q = cc

pub further_init : (a b : Solving) → KeepsAllButTrail a b → IsFurther a b
further_init a b h = record { clauses = rw h.clauses (take_all a.clauses); log = rw h.log (take_all a.log) }

pub further_same : (a b c : Solving) → IsFurther a b → KeepsAllButTrail b c → IsFurther a c
further_same a b c h s = record { clauses = rw s.clauses h.clauses; log = rw s.log h.log }

pub further_one : (a b c : Solving) (e : Bool) → IsFurther a b → HasOneMore b c e → IsFurther a c
further_one a b c e h o = record { clauses = rw o.clauses (prefix_push a.clauses b.clauses o.clause h.clauses); log = rw o.log (prefix_push a.log b.log _ h.log) }

-- where memory was had for the clause and not for its step
pub further_part : (a b c : Solving) → IsFurther a b → take (length b.clauses) c.clauses ≡ b.clauses → c.log ≡ b.log → IsFurther a c
further_part a b c h kept log = record { clauses = take_take a.clauses b.clauses c.clauses h.clauses kept; log = rw log h.log }

learned_prefix : (cs ends : List (List Lit)) (steps : List LogStep) → AreLearned cs steps ends → take (length cs) ends ≡ cs
learned_prefix cs ends [] h = rw h (take_all ends)
learned_prefix cs ends (s ∷ steps) h = take_take cs (cs ++ h.0 ∷ []) ends (take_push cs h.0) (learned_prefix (cs ++ h.0 ∷ []) ends steps h.4)

pub extends_further : (a b : Solving) → Extends a b → IsFurther a b
extends_further a b h = record { clauses = learned_prefix a.clauses b.clauses h.steps h.learned; log = rw h.log (take-append-le (length a.log) a.log h.steps (omega arith) ∙ take_all a.log) }
