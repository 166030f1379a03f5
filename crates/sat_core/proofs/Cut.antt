-- A trail that is cut at the start of a level, and clauses and steps that are added.
use Rattle.std.proofs.Common.{◌≡◌, ◌≢◌, ℕ, zero, suc, ◌+◌, ◌<◌, ◌≤◌, Bool, true, false, not, ◌&&◌, ◌||◌, nat_eq, List, [], ◌∷◌, ◌++◌, length, take, set, get_or, slice_get, Option, Some, None, refl, sym, ap, ◌∙◌, subst, ◌⊎◌, inl, inr, arith, eqb-true, length-append}
use Rattle.std.proofs.Math.Path.{fun_ext}
use Rattle.std.proofs.lemmas.List.{take-append-le}
use Rattle.std.specs.Cmp.{nat_eq_equiv}
use Rattle.std.specs.List.{list_any}
use Rattle.clause_store.specs.declared.lit.Lit.{Lit}
use Rattle.clause_store.specs.Clauses.{has, mentions, lit_eq, sign_eq, is_within, are_within}
use Rattle.clause_store.specs.Chained.{without, IsChained}
use Rattle.literal_signs.specs.declared.sign.Sign.{Sign}
use Rattle.literal_signs.specs.declared.sign.Sign.TheVariants.{Absent, Positive, Negative}
use Rattle.literal_signs.specs.Marked.{is_absent, absents, marked_set, sign_marks}
use Rattle.sat_core.specs.Assignments.{IsAtRest, IsFresh}
use Rattle.sat_core.specs.Kept.{AreSigned}
use Rattle.sat_core.specs.Solving.{lits_of, IsStep, IsLog, HasEmpty}
use Rattle.sat_core.specs.Trail.{IsTrail, IsImplied}
use Rattle.clause_store.proofs.Sets.{or_first, or_second, and_left, and_right, true_or_false, has-mentions, itself}
use Rattle.literal_signs.proofs.United.{erased}
use Rattle.sat_core.specs.declared.trail.Entry.{Entry}
use Rattle.sat_core.proofs.Pushed.{Before, Last, one_more, take_all, some_same, none_some, any-append}
use Rattle.sat_core.proofs.Entries.{has-pushed, absent_unset, same_length, any_place, place_any, place_within}
use Rattle.sat_core.proofs.Back.{in_take}
use Rattle.sat_core.specs.declared.trail.LogStep.{LogStep}

pub last_at : {X : Type 0} (xs : List X) (x : X) → slice_get (xs ++ x ∷ []) (length xs) ≡ Some x
last_at [] x = refl
last_at (y ∷ xs) x = last_at xs x

pub get_before : {X : Type 0} (xs : List X) (k : ℕ) (x new : X) → slice_get xs k ≡ Some x → slice_get (xs ++ new ∷ []) k ≡ Some x
get_before [] k x new e = absurd (none_some e)
get_before (y ∷ xs) zero x new e = e
get_before (y ∷ xs) (suc k) x new e = get_before xs k x new e

pub take_before : {X : Type 0} (xs : List X) (k : ℕ) (x new : X) → slice_get xs k ≡ Some x → take k (xs ++ new ∷ []) ≡ take k xs
take_before xs k x new e = let lt = place_within xs k x e in take-append-le k xs (new ∷ []) (omega (arith, lt))

pub take_last : {X : Type 0} (xs : List X) (new : X) → take (length xs) (xs ++ new ∷ []) ≡ xs
take_last xs new = take-append-le (length xs) xs (new ∷ []) (omega arith) ∙ take_all xs

-- the newest entry is taken back
pub undone : (t : List Entry) (signs : List Sign) (e : Entry) → AreSigned (t ++ e ∷ []) signs → AreSigned t (set signs e.lit.var Absent)
undone t signs e h =
    record {
      marks = erased signs e.lit.var lt ∙ fun_ext (λ m. at m (true_or_false (nat_eq m.var e.lit.var)));
      count = counted;
      free = λ k x get. subst (λ p. mentions (lits_of p) x.lit.var ≡ false) (take_before t k x e get) (h.free k x (get_before t k x e get));
      below = λ k x get. rw (same_length signs e.lit.var Absent) (h.below k x (get_before t k x e get));
    }
  where
    lt : e.lit.var < length signs
    lt = h.below (length t) e (last_at t e)

    gone : mentions (lits_of t) e.lit.var ≡ false
    gone = subst (λ p. mentions (lits_of p) e.lit.var ≡ false) (take_last t e) (h.free (length t) e (last_at t e))

    here : (a s q : Bool) → q ≡ true → a ≡ false → ((a || s) && not q) ≡ a
    here false true true f g = refl
    here false false true f g = refl
    here true s q f g = cc
    here a s false f g = cc

    kept : (a n s q : Bool) → q ≡ false → n ≡ q → ((a || (n && s)) && not q) ≡ a
    kept true false s false f g = refl
    kept false false s false f g = refl
    kept a true s false f g = cc
    kept a n s true f g = cc

    at : (m : Lit) → (nat_eq m.var e.lit.var ≡ true) ⊎ (nat_eq m.var e.lit.var ≡ false) → without (marked_set signs) e.lit.var m ≡ has (lits_of t) m
    at m (inl s) = ap (λ f. without f e.lit.var m) h.marks ∙ ap (λ b. b && not (nat_eq m.var e.lit.var)) (has-pushed t e m)
        ∙ here (has (lits_of t) m) (lit_eq e.lit m) (nat_eq m.var e.lit.var) s (has-mentions (lits_of t) m (subst (λ v. mentions (lits_of t) v ≡ false) (sym (eqb-true m.var e.lit.var s)) gone))
    at m (inr s) = ap (λ f. without f e.lit.var m) h.marks ∙ ap (λ b. b && not (nat_eq m.var e.lit.var)) (has-pushed t e m)
        ∙ kept (has (lits_of t) m) (nat_eq e.lit.var m.var) (sign_eq e.lit.positive m.positive) (nat_eq m.var e.lit.var) s (nat_eq_equiv.symm e.lit.var m.var)

    there : is_absent (get_or signs e.lit.var Absent) ≡ false
    there = one (get_or signs e.lit.var Absent) (ap (λ f. f e.lit) h.marks ∙ has-pushed t e e.lit ∙ or_second _ _ (itself e.lit))
      where
        one : (s : Sign) → sign_marks s e.lit.positive ≡ true → is_absent s ≡ false
        one Absent f = cc
        one Positive f = refl
        one Negative f = refl

    counted : length t + absents (set signs e.lit.var Absent) ≡ length (set signs e.lit.var Absent)
    counted =
        let one = absent_unset signs e.lit.var lt there in
        let c = h.count in
        let len = length-append t (e ∷ []) in
        rw (same_length signs e.lit.var Absent) (omega (arith, one, c, len))

pub take_in : {X : Type 0} (xs : List X) (k n : ℕ) → k ≤ n → take k (take n xs) ≡ take k xs
take_in xs zero n le = refl
take_in [] (suc k) zero le = refl
take_in [] (suc k) (suc n) le = refl
take_in (x ∷ xs) (suc k) zero le = absurd (omega (arith, le))
take_in (x ∷ xs) (suc k) (suc n) le = ap (λ z. x ∷ z) (take_in xs k n (omega (arith, le)))

pub length_take : {X : Type 0} (xs : List X) (n : ℕ) → n ≤ length xs → length (take n xs) ≡ n
length_take xs zero le = refl
length_take [] (suc n) le = absurd (omega (arith, le))
length_take (x ∷ xs) (suc n) le = ap suc (length_take xs n (omega (arith, le)))

get_take : {X : Type 0} (xs : List X) (n k : ℕ) (x : X) → k < n → slice_get xs k ≡ Some x → slice_get (take n xs) k ≡ Some x
get_take [] n k x lt e = absurd (none_some e)
get_take (y ∷ xs) zero k x lt e = absurd (omega (arith, lt))
get_take (y ∷ xs) (suc n) zero x lt e = e
get_take (y ∷ xs) (suc n) (suc k) x lt e = get_take xs n k x (omega (arith, lt)) e

pub cut_trail : (cs : List (List Lit)) (t : List Entry) (starts : List ℕ) (level n : ℕ) → IsTrail cs t starts → slice_get starts level ≡ Some n → IsTrail cs (take n t) (take level starts)
cut_trail cs t starts level n h at =
    record {
      free = λ k e get. let r = in_take t n k e get in rw r.prefix (h.free k e r.here);
      known = λ k e get. let r = in_take t n k e get in h.known k e r.here;
      implied = λ k e get. let r = in_take t n k e get in rw r.prefix (h.implied k e r.here);
      decided = λ k e get. let r = in_take t n k e get in ((λ none. to_cut k r.within ((h.decided k e r.here).0 none)), λ any. (h.decided k e r.here).1 (from_cut k any));
      within = λ j k get. let r = in_take starts level j k get in let lt = h.rising j level k n r.within r.here at in let w = h.within level n at in rw (length_take t n (omega (arith, w))) lt;
      rising = λ i j a b lt f g. h.rising i j a b lt (in_take starts level i a f).here (in_take starts level j b g).here;
      rest = λ j k get. let r = in_take starts level j k get in let lt = h.rising j level k n r.within r.here at in rw (take_in t k n (omega (arith, lt))) (h.rest j k r.here);
    }
  where
    order : (j l : ℕ) → (j < l) ⊎ ((j ≡ l) ⊎ (l < j))
    order j l = grind arith

    to_cut : (k : ℕ) → k < n → list_any (nat_eq k) starts ≡ true → list_any (nat_eq k) (take level starts) ≡ true
    to_cut k lt any = let w = any_place starts k any in split w.0 w.1 (order w.0 level)
      where
        split : (j : ℕ) → slice_get starts j ≡ Some k → (j < level) ⊎ ((j ≡ level) ⊎ (level < j)) → list_any (nat_eq k) (take level starts) ≡ true
        split j get (inl less) = place_any (take level starts) j k (get_take starts level j k less get)
        split j get (inr (inl e)) = let same : n ≡ k = some_same (sym at ∙ ap (slice_get starts) (sym e) ∙ get) in absurd (omega (arith, same, lt))
        split j get (inr (inr more)) = let up = h.rising level j n k more at get in absurd (omega (arith, up, lt))

    from_cut : (k : ℕ) → list_any (nat_eq k) (take level starts) ≡ true → list_any (nat_eq k) starts ≡ true
    from_cut k any = let w = any_place (take level starts) k any in place_any starts w.0 k (in_take starts level w.0 k w.1).here

-- one clause more
pub clause_trail : (cs : List (List Lit)) (c : List Lit) (t : List Entry) (starts : List ℕ) → IsTrail cs t starts → ((j k : ℕ) → slice_get starts j ≡ Some k → IsAtRest (lits_of (take k t)) (cs ++ c ∷ [])) → IsTrail (cs ++ c ∷ []) t starts
clause_trail cs c t starts h rest =
    record {
      free = h.free;
      known = λ k e get. any-append (λ x. mentions x e.lit.var) cs c ∙ or_first _ _ (h.known k e get);
      implied = λ k e get. implied_more (lits_of (take k t)) e.lit e.reason (h.implied k e get);
      decided = h.decided;
      within = h.within;
      rising = h.rising;
      rest = rest;
    }
  where
    implied_more : (p : List Lit) (l : Lit) (o : Option ℕ) → IsImplied cs p l o → IsImplied (cs ++ c ∷ []) p l o
    implied_more p l None i = tt
    implied_more p l (Some j) i = (i.0, get_before cs j i.0 c i.1, i.2)

step_kept : (cs : List (List Lit)) (c : List Lit) (s : LogStep) → IsStep cs s → IsStep (cs ++ c ∷ []) s
step_kept cs c s h =
    let same = take_before cs s.place h.clause c h.here in
    record { clause = h.clause; here = get_before cs s.place h.clause c h.here; chained = rw same h.chained; fresh = λ n. rw same (h.fresh n) }

pub clause_log : (cs : List (List Lit)) (c : List Lit) (log : List LogStep) → IsLog cs log → IsLog (cs ++ c ∷ []) log
clause_log cs c log h = record { steps = λ k s get. step_kept cs c s (h.steps k s get); rising = h.rising }

-- and the step that gave it
pub step_log : (cs : List (List Lit)) (c : List Lit) (log : List LogStep) (ids : List ℕ) → IsLog cs log → IsChained cs ids c → ((c ≢ []) → IsFresh cs c) → IsLog (cs ++ c ∷ []) (log ++ record { place = length cs; ids = ids } ∷ [])
step_log cs c log ids h chained fresh =
    record {
      steps = λ k s get. step_at k s (one_more log k s new get);
      rising = λ i j s t lt f g. rising_at i j s t lt (one_more log i s new f) (one_more log j t new g);
    }
  where
    new : LogStep
    new = record { place = length cs; ids = ids }

    new_step : IsStep (cs ++ c ∷ []) new
    new_step = record { clause = c; here = last_at cs c; chained = rw (take_last cs c) chained; fresh = λ n. rw (take_last cs c) (fresh n) }

    step_at : (k : ℕ) (s : LogStep) → Before log k s new ⊎ Last log k s new → IsStep (cs ++ c ∷ []) s
    step_at k s (inl b) = step_kept cs c s (h.steps k s b.here)
    step_at k s (inr l) = subst (IsStep (cs ++ c ∷ [])) (sym l.is) new_step

    rising_at : (i j : ℕ) (s t : LogStep) → i < j → Before log i s new ⊎ Last log i s new → Before log j t new ⊎ Last log j t new → s.place < t.place
    rising_at i j s t lt (inl a) (inl b) = h.rising i j s t lt a.here b.here
    rising_at i j s t lt (inl a) (inr b) =
        let x = h.steps i s a.here in
        let low = place_within cs s.place x.clause x.here in
        let e : t.place ≡ length cs = ap (λ y. y.place) b.is in
        omega (arith, low, e)
    rising_at i j s t lt (inr a) (inl b) = let e = a.place in let w = b.within in absurd (omega (arith, lt, e, w))
    rising_at i j s t lt (inr a) (inr b) = let e = a.place in let w = b.place in absurd (omega (arith, lt, e, w))

pub empty_more : (cs : List (List Lit)) (c : List Lit) → ¬ (HasEmpty cs) → (i : ℕ) → slice_get (cs ++ c ∷ []) i ≡ Some [] → i + 1 ≡ length (cs ++ c ∷ [])
empty_more cs c full i get = split (one_more cs i [] c get)
  where
    split : Before cs i [] c ⊎ Last cs i [] c → i + 1 ≡ length (cs ++ c ∷ [])
    split (inl b) = absurd (full (i, b.here))
    split (inr l) = let e = l.place in let len = length-append cs (c ∷ []) in omega (arith, e, len)

pub below_more : (n : ℕ) (cs : List (List Lit)) (c : List Lit) → are_within n cs ≡ true → is_within n c ≡ true → are_within n (cs ++ c ∷ []) ≡ true
below_more n [] c h g = rw g refl
below_more n (x ∷ cs) c h g = both (is_within n x) (are_within n (cs ++ c ∷ [])) (and_left _ _ h) (below_more n cs c (and_right _ _ h) g)
  where
    both : (a b : Bool) → a ≡ true → b ≡ true → (a && b) ≡ true
    both true b e f = f
    both false b e f = e
