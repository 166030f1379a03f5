-- The signs beside a trail that has one entry more, or one less.
use Rattle.std.proofs.Common.{◌≡◌, ◌↔◌, ℕ, zero, suc, ◌+◌, ◌<◌, ◌≤◌, Bool, true, false, not, cond, ◌&&◌, ◌||◌, nat_eq, IsTrue, List, [], ◌∷◌, ◌++◌, length, take, set, get_or, slice_get, Some, None, refl, sym, ap, ◌∙◌, subst, ◌⊎◌, inl, inr, arith, eqb-true, eq-eqb, length-append, ltb-true}
use Rattle.std.proofs.Math.Path.{fun_ext}
use Rattle.std.proofs.lemmas.List.{take-append-le}
use Rattle.std.specs.List.{list_any}
use Rattle.clause_store.specs.declared.lit.Lit.{Lit}
use Rattle.clause_store.specs.Clauses.{has, mentions, opposite, lit_eq, sign_eq, is_within, are_within}
use Rattle.literal_signs.specs.declared.sign.Sign.{Sign}
use Rattle.literal_signs.specs.declared.sign.Sign.TheVariants.{Absent, Positive, Negative}
use Rattle.literal_signs.specs.Marked.{is_absent, absents, marked_set, sign_marks, sign_for}
use Rattle.sat_core.specs.Assignments.{IsUnit, IsAtRest, is_false}
use Rattle.sat_core.specs.Passed.{IsAtRestUpTo}
use Rattle.sat_core.specs.Scanned.{IsFalseUnder, IsUnitUnder, IsNeither}
use Rattle.sat_core.specs.Solving.{lits_of, Solving, HasGrown}
use Rattle.sat_core.specs.Trail.{IsTrail, IsImplied}
use Rattle.clause_store.proofs.Sets.{never, or_cases, or_first, or_second, or_left, or_right, or_nothing, or_turn, and_left, and_right, true_or_false, has-mentions, same, itself}
use Rattle.literal_signs.proofs.United.{marked_set-set}
use Rattle.sat_core.specs.declared.trail.Entry.{Entry}
use Rattle.sat_core.proofs.Pushed.{Before, Last, one_more, some_same, none_some}

pub has-pushed : (t : List Entry) (e : Entry) (m : Lit) → has (lits_of (t ++ e ∷ [])) m ≡ (has (lits_of t) m || lit_eq e.lit m)
has-pushed [] e m = or_nothing (lit_eq e.lit m)
has-pushed (x ∷ t) e m = ap (λ b. lit_eq x.lit m || b) (has-pushed t e m) ∙ or_turn (lit_eq x.lit m) (has (lits_of t) m) (lit_eq e.lit m)

stands-signed : (p q : Bool) → sign_marks (sign_for p) q ≡ sign_eq p q
stands-signed true q = refl
stands-signed false q = refl

pub marks_more : (t : List Entry) (signs : List Sign) (e : Entry) → e.lit.var < length signs → marked_set signs ≡ has (lits_of t) → mentions (lits_of t) e.lit.var ≡ false
    → marked_set (set signs e.lit.var (sign_for e.lit.positive)) ≡ has (lits_of (t ++ e ∷ []))
marks_more t signs e lt h free = fun_ext (λ m. marked_set-set signs e.lit.var (sign_for e.lit.positive) m lt ∙ at m (true_or_false (nat_eq e.lit.var m.var)) ∙ sym (has-pushed t e m))
  where
    here : (n st s a mk : Bool) → n ≡ true → st ≡ s → a ≡ false → cond n st mk ≡ (a || (n && s))
    here true st s false mk f is g = is
    here true st s true mk f is g = cc
    here false st s a mk f is g = cc

    kept : (n st s a mk : Bool) → n ≡ false → mk ≡ a → cond n st mk ≡ (a || (n && s))
    kept false st s a mk f is = is ∙ sym (or_nothing a)
    kept true st s a mk f is = cc

    at : (m : Lit) → (nat_eq e.lit.var m.var ≡ true) ⊎ (nat_eq e.lit.var m.var ≡ false) → cond (nat_eq e.lit.var m.var) (sign_marks (sign_for e.lit.positive) m.positive) (marked_set signs m) ≡ (has (lits_of t) m || lit_eq e.lit m)
    at m (inl s) = here (nat_eq e.lit.var m.var) (sign_marks (sign_for e.lit.positive) m.positive) (sign_eq e.lit.positive m.positive) (has (lits_of t) m) (marked_set signs m) s (stands-signed e.lit.positive m.positive)
        (has-mentions (lits_of t) m (subst (λ v. mentions (lits_of t) v ≡ false) (eqb-true e.lit.var m.var s) free))
    at m (inr s) = kept (nat_eq e.lit.var m.var) (sign_marks (sign_for e.lit.positive) m.positive) (sign_eq e.lit.positive m.positive) (has (lits_of t) m) (marked_set signs m) s (ap (λ f. f m) h)

pub absent_set : (signs : List Sign) (v : ℕ) (s : Sign) → v < length signs → get_or signs v Absent ≡ Absent → is_absent s ≡ false → absents (set signs v s) + 1 ≡ absents signs
absent_set [] v s lt h f = absurd (omega arith)
absent_set (x ∷ signs) zero s lt h f = rw (h, f) (omega arith)
absent_set (x ∷ signs) (suc v) s lt h f = let e = absent_set signs v s (omega arith) h f in omega (arith, e)

pub absent_unset : (signs : List Sign) (v : ℕ) → v < length signs → is_absent (get_or signs v Absent) ≡ false → absents (set signs v Absent) ≡ absents signs + 1
absent_unset [] v lt h = absurd (omega arith)
absent_unset (x ∷ signs) zero lt h = rw h (omega arith)
absent_unset (x ∷ signs) (suc v) lt h = let e = absent_unset signs v (omega arith) h in omega (arith, e)

-- a variable of neither literal has no sign
pub no_sign : (signs : List Sign) (v : ℕ) → marked_set signs (record { var = v; positive = true }) ≡ false → marked_set signs (record { var = v; positive = false }) ≡ false → get_or signs v Absent ≡ Absent
no_sign signs v h g = cases (get_or signs v Absent) h g
  where
    cases : (s : Sign) → sign_marks s true ≡ false → sign_marks s false ≡ false → s ≡ Absent
    cases Absent h g = refl
    cases Positive h g = cc
    cases Negative h g = cc

signed_not_absent : (p : Bool) → is_absent (sign_for p) ≡ false
signed_not_absent true = refl
signed_not_absent false = refl

length-set : (signs : List Sign) (v : ℕ) (s : Sign) → length (set signs v s) ≡ length signs
length-set [] zero s = refl
length-set [] (suc v) s = refl
length-set (x ∷ signs) zero s = refl
length-set (x ∷ signs) (suc v) s = ap suc (length-set signs v s)

pub same_length : (signs : List Sign) (v : ℕ) (s : Sign) → length (set signs v s) ≡ length signs
same_length = length-set

pub count_more : (t : List Entry) (signs : List Sign) (e : Entry) → e.lit.var < length signs → marked_set signs ≡ has (lits_of t) → mentions (lits_of t) e.lit.var ≡ false → length t + absents signs ≡ length signs
    → length (t ++ e ∷ []) + absents (set signs e.lit.var (sign_for e.lit.positive)) ≡ length (set signs e.lit.var (sign_for e.lit.positive))
count_more t signs e lt h free count =
    let v = e.lit.var in
    let none : (b : Bool) → marked_set signs (record { var = v; positive = b }) ≡ false = λ b. ap (λ f. f (record { var = v; positive = b })) h ∙ has-mentions (lits_of t) (record { var = v; positive = b }) free in
    let one = absent_set signs v (sign_for e.lit.positive) lt (no_sign signs v (none true) (none false)) (signed_not_absent e.lit.positive) in
    rw (length-set signs v (sign_for e.lit.positive), length-append t (e ∷ [])) (omega (arith, one, count))

pub count_within : (t : List Entry) (signs : List Sign) → length t + absents signs ≡ length signs → length t ≤ length signs
count_within t signs h = omega (arith, h)

-- the variables of a clause at a place
pub mentions_has : (c : List Lit) (m : Lit) → has c m ≡ true → mentions c m.var ≡ true
mentions_has [] m h = h
mentions_has (l ∷ c) m h = split (or_cases _ _ h) (mentions_has c m)
  where
    split : (lit_eq l m ≡ true) ⊎ (has c m ≡ true) → (has c m ≡ true → mentions c m.var ≡ true) → mentions (l ∷ c) m.var ≡ true
    split (inl e) next = or_first (nat_eq l.var m.var) (mentions c m.var) (and_left (nat_eq l.var m.var) (sign_eq l.positive m.positive) e)
    split (inr e) next = or_second (nat_eq l.var m.var) (mentions c m.var) (next e)

pub known_at : (cs : List (List Lit)) (i v : ℕ) (c : List Lit) → slice_get cs i ≡ Some c → mentions c v ≡ true → list_any (λ c. mentions c v) cs ≡ true
known_at [] i v c get h = absurd (none_some get)
known_at (x ∷ cs) zero v c get h = or_first _ _ (subst (λ y. mentions y v ≡ true) (sym (some_same get)) h)
known_at (x ∷ cs) (suc i) v c get h = or_second _ _ (known_at cs i v c get h)

pub below_mentions : (n : ℕ) (c : List Lit) (v : ℕ) → is_within n c ≡ true → mentions c v ≡ true → v < n
below_mentions n [] v h g = never g refl
below_mentions n (l ∷ c) v h g = pick (or_cases _ _ g) (below_mentions n c v (and_right _ _ h))
  where
    pick : (nat_eq l.var v ≡ true) ⊎ (mentions c v ≡ true) → (mentions c v ≡ true → v < n) → v < n
    pick (inl e) next = subst (λ w. w < n) (eqb-true l.var v e) (ltb-true _ _ (and_left _ _ h))
    pick (inr e) next = next e

pub below_known : (n : ℕ) (cs : List (List Lit)) (v : ℕ) → are_within n cs ≡ true → list_any (λ c. mentions c v) cs ≡ true → v < n
below_known n [] v h g = never g refl
below_known n (c ∷ cs) v h g = pick (or_cases _ _ g) (below_known n cs v (and_right _ _ h))
  where
    pick : (mentions c v ≡ true) ⊎ (list_any (λ c. mentions c v) cs ≡ true) → (list_any (λ c. mentions c v) cs ≡ true → v < n) → v < n
    pick (inl e) next = below_mentions n c v (and_left _ _ h) e
    pick (inr e) next = next e

pub any_place : (xs : List ℕ) (k : ℕ) → list_any (nat_eq k) xs ≡ true → (j : ℕ) × (slice_get xs j ≡ Some k)
any_place [] k h = never h refl
any_place (x ∷ xs) k h = pick (or_cases _ _ h) (any_place xs k)
  where
    pick : (nat_eq k x ≡ true) ⊎ (list_any (nat_eq k) xs ≡ true) → (list_any (nat_eq k) xs ≡ true → (j : ℕ) × (slice_get xs j ≡ Some k)) → (j : ℕ) × (slice_get (x ∷ xs) j ≡ Some k)
    pick (inl e) next = (0, ap (λ y. Some y) (sym (eqb-true k x e)))
    pick (inr e) next = let w = next e in (suc w.0, w.1)

pub place_any : (xs : List ℕ) (j k : ℕ) → slice_get xs j ≡ Some k → list_any (nat_eq k) xs ≡ true
place_any [] j k get = absurd (none_some get)
place_any (x ∷ xs) zero k get = or_first _ _ (eq-eqb k x (sym (some_same get)))
place_any (x ∷ xs) (suc j) k get = or_second _ _ (place_any xs j k get)

pub mentions-both : (p : List Lit) (l : Lit) → has p l ≡ false → has p (opposite l) ≡ false → mentions p l.var ≡ false
mentions-both [] l h g = refl
mentions-both (x ∷ p) l h g = both (nat_eq x.var l.var) (mentions p l.var) (table (nat_eq x.var l.var) x.positive l.positive (or_left _ _ h) (or_left _ _ g)) (mentions-both p l (or_right (lit_eq x l) (has p l) h) (or_right (lit_eq x (opposite l)) (has p (opposite l)) g))
  where
    both : (a b : Bool) → a ≡ false → b ≡ false → (a || b) ≡ false
    both false b e f = f
    both true b e f = e

    table : (n s q : Bool) → (n && sign_eq s q) ≡ false → (n && sign_eq s (not q)) ≡ false → n ≡ false
    table false s q h g = refl
    table true true true h g = cc
    table true true false h g = cc
    table true false true h g = cc
    table true false false h g = cc

pub unit_list : (p c : List Lit) (l : Lit) → IsUnitUnder (has p) (has c) l → IsUnit p c l
unit_list p c l u = record { here = u.here; free = mentions-both p l u.open_so u.open_not; others = u.others }

pub unit_set : (p c : List Lit) (l : Lit) → IsUnit p c l → IsUnitUnder (has p) (has c) l
unit_set p c l u = record { here = u.here; open_so = has-mentions p l u.free; open_not = has-mentions p (opposite l) u.free; others = u.others }

pub false_set : (p c : List Lit) → is_false p c ≡ true → IsFalseUnder (has p) (has c)
false_set p [] h m g = never g refl
false_set p (l ∷ c) h m g = pick (or_cases _ _ g) (false_set p c (and_right _ _ h) m)
  where
    same_it : lit_eq l m ≡ true → l ≡ m
    same_it e = same l m e

    pick : (lit_eq l m ≡ true) ⊎ (has c m ≡ true) → (has c m ≡ true → has p (opposite m) ≡ true) → has p (opposite m) ≡ true
    pick (inl e) next = subst (λ x. has p (opposite x) ≡ true) (same_it e) (and_left _ _ h)
    pick (inr e) next = next e

pub false_list : (p c : List Lit) → IsFalseUnder (has p) (has c) → is_false p c ≡ true
false_list p [] h = refl
false_list p (l ∷ c) h = rw (h l (or_first _ _ (itself l))) (false_list p c (λ m g. h m (or_second _ _ g)))

pub not_false_list : (p c : List Lit) → ¬ (IsFalseUnder (has p) (has c)) → is_false p c ≡ false
not_false_list p c h = pick (true_or_false (is_false p c))
  where
    pick : (is_false p c ≡ true) ⊎ (is_false p c ≡ false) → is_false p c ≡ false
    pick (inl e) = absurd (h (false_set p c e))
    pick (inr e) = e

-- a clause that is neither makes the quiet part longer
pub quiet_more : (p : List Lit) (cs : List (List Lit)) (n : ℕ) (c : List Lit) → IsAtRestUpTo p cs n → slice_get cs n ≡ Some c → IsNeither (has p) (has c) → IsAtRestUpTo p cs (n + 1)
quiet_more p cs n c q get h =
    record {
      none_false = λ i b lt at. pick_false i b at (split i lt);
      none_unit = λ i b lt at. pick_unit i b at (split i lt);
    }
  where
    split : (i : ℕ) → i < n + 1 → (i < n) ⊎ (i ≡ n)
    split i lt = grind arith

    is_c : (i : ℕ) (b : List Lit) → slice_get cs i ≡ Some b → i ≡ n → c ≡ b
    is_c i b at e = some_same (sym get ∙ ap (slice_get cs) (sym e) ∙ at)

    pick_false : (i : ℕ) (b : List Lit) → slice_get cs i ≡ Some b → (i < n) ⊎ (i ≡ n) → is_false p b ≡ false
    pick_false i b at (inl lt) = q.none_false i b lt at
    pick_false i b at (inr e) = subst (λ x. is_false p x ≡ false) (is_c i b at e) (not_false_list p c h.0)

    pick_unit : (i : ℕ) (b : List Lit) → slice_get cs i ≡ Some b → (i < n) ⊎ (i ≡ n) → (l : Lit) → ¬ (IsUnit p b l)
    pick_unit i b at (inl lt) = q.none_unit i b lt at
    pick_unit i b at (inr e) = subst (λ x. (l : Lit) → ¬ (IsUnit p x l)) (is_c i b at e) (λ l u. h.1 l (unit_set p c l u))

pub quiet_none : (p : List Lit) (cs : List (List Lit)) → IsAtRestUpTo p cs 0
quiet_none p cs = record { none_false = λ i c lt at. absurd (omega (arith, lt)); none_unit = λ i c lt at. absurd (omega (arith, lt)) }

pub place_within : {X : Type 0} (xs : List X) (i : ℕ) (x : X) → slice_get xs i ≡ Some x → i < length xs
place_within [] i x e = absurd (none_some e)
place_within (y ∷ xs) zero x e = omega arith
place_within (y ∷ xs) (suc i) x e = let h = place_within xs i x e in omega (arith, h)

pub quiet_all : (p : List Lit) (cs : List (List Lit)) (n : ℕ) → length cs ≤ n → IsAtRestUpTo p cs n → IsAtRest p cs
quiet_all p cs n le q =
    record {
      none_false = λ i c at. q.none_false i c (low i c at) at;
      none_unit = λ i c at. q.none_unit i c (low i c at) at;
    }
  where
    low : (i : ℕ) (c : List Lit) → slice_get cs i ≡ Some c → i < n
    low i c at = let h = place_within cs i c at in omega (arith, h, le)

-- an entry that a clause makes true
pub implied_trail : (cs : List (List Lit)) (t : List Entry) (starts : List ℕ) (l : Lit) (i : ℕ) (c : List Lit) → IsTrail cs t starts → slice_get cs i ≡ Some c → IsUnit (lits_of t) c l
    → IsTrail cs (t ++ record { lit = l; reason = Some i } ∷ []) starts
implied_trail cs t starts l i c h get unit =
    record {
      free = λ k e at. free_at k e (one_more t k e new at);
      known = λ k e at. knows k e (one_more t k e new at);
      implied = λ k e at. implied_at k e (one_more t k e new at);
      decided = λ k e at. decided_at k e (one_more t k e new at);
      within = λ j k at. let lt = h.within j k at in rw (length-append t (new ∷ [])) (omega (arith, lt));
      rising = h.rising;
      rest = λ j k at. rw (before_take k (h.within j k at)) (h.rest j k at);
    }
  where
    new : Entry
    new = record { lit = l; reason = Some i }

    before_take : (k : ℕ) → k < length t → take k (t ++ new ∷ []) ≡ take k t
    before_take k lt = take-append-le k t (new ∷ []) (omega arith)

    free_at : (k : ℕ) (e : Entry) → Before t k e new ⊎ Last t k e new → mentions (lits_of (take k (t ++ new ∷ []))) e.lit.var ≡ false
    free_at k e (inl b) = rw b.prefix (h.free k e b.here)
    free_at k e (inr l) = rw (l.prefix, l.is) unit.free

    knows : (k : ℕ) (e : Entry) → Before t k e new ⊎ Last t k e new → IsTrue (list_any (λ c. mentions c e.lit.var) cs)
    knows k e (inl b) = h.known k e b.here
    knows k e (inr x) = rw x.is (known_at cs i l.var c get (mentions_has c l unit.here))

    implied_at : (k : ℕ) (e : Entry) → Before t k e new ⊎ Last t k e new → IsImplied cs (lits_of (take k (t ++ new ∷ []))) e.lit e.reason
    implied_at k e (inl b) = rw b.prefix (h.implied k e b.here)
    implied_at k e (inr x) = rw (x.prefix, x.is) (c, get, unit)

    decided_at : (k : ℕ) (e : Entry) → Before t k e new ⊎ Last t k e new → (e.reason ≡ None) ↔ IsTrue (list_any (nat_eq k) starts)
    decided_at k e (inl b) = h.decided k e b.here
    decided_at k e (inr x) = ((λ f. absurd (none_some (sym f ∙ ap (λ y. y.reason) x.is))), λ f. absurd (out (any_place starts k f)))
      where
        out : ((j : ℕ) × (slice_get starts j ≡ Some k)) → ⊥
        out w = let lt = h.within w.0 k w.1 in let e = x.place in omega (arith, lt, e)

cons_rest : {X : Type 0} {x y : X} {xs ys : List X} → x ∷ xs ≡ y ∷ ys → xs ≡ ys
cons_rest e = cc

cons_first : {X : Type 0} {x y : X} {xs ys : List X} → x ∷ xs ≡ y ∷ ys → x ≡ y
cons_first e = cc

nil_cons : {X : Type 0} {x : X} {xs : List X} → [] ≡ x ∷ xs → ⊥
nil_cons e = cc

pub prefix_trans : {X : Type 0} (a b c : List X) → take (length a) b ≡ a → take (length b) c ≡ b → take (length a) c ≡ a
prefix_trans [] b c e f = refl
prefix_trans (x ∷ a) [] c e f = absurd (nil_cons e)
prefix_trans (x ∷ a) (y ∷ b) [] e f = absurd (nil_cons f)
prefix_trans (x ∷ a) (y ∷ b) (z ∷ c) e f = ap (λ h. h ∷ take (length a) c) (cons_first f ∙ cons_first e) ∙ ap (λ t. x ∷ t) (prefix_trans a b c (cons_rest e) (cons_rest f))

pub grown_trans : (a b c : Solving) → HasGrown a b → HasGrown b c → HasGrown a c
grown_trans a b c f g =
    let p = f.longer in
    let q = g.longer in
    record {
      clauses = g.clauses ∙ f.clauses;
      log = g.log ∙ f.log;
      starts = g.starts ∙ f.starts;
      room = g.room ∙ f.room;
      trail = prefix_trans a.trail b.trail c.trail f.trail g.trail;
      longer = omega (arith, p, q);
    }

pub get_some : {X : Type 0} (xs : List X) (i : ℕ) (d : X) → i < length xs → slice_get xs i ≡ Some (get_or xs i d)
get_some [] i d lt = absurd (omega arith)
get_some (x ∷ xs) zero d lt = refl
get_some (x ∷ xs) (suc i) d lt = get_some xs i d (omega arith)
