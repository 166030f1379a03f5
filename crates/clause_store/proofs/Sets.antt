-- Clauses as sets of literals.
use Rattle.std.proofs.Common.{◌≡◌, ℕ, zero, suc, ◌+◌, ◌<◌, Bool, true, false, not, ◌&&◌, ◌||◌, nat_eq, nat_lt, List, [], ◌∷◌, ◌++◌, length, take, drop, get_or, slice_get, Some, None, refl, sym, ap, ◌∙◌, subst, arith, ◌⊎◌, inl, inr, eqb-true}
use Rattle.std.specs.Cmp.{nat_eq_equiv}
use Rattle.clause_store.specs.declared.lit.Lit.{Lit}
use Rattle.clause_store.specs.Clauses.{has, is_clause, are_clauses, mentions, lit_eq, sign_eq, is_within, are_within}

pub or_left : (a b : Bool) → (a || b) ≡ false → a ≡ false
or_left true b e = e
or_left false b e = refl

pub or_right : (a b : Bool) → (a || b) ≡ false → b ≡ false
or_right true b e = cc
or_right false b e = e

pub and_left : (a b : Bool) → (a && b) ≡ true → a ≡ true
and_left true b e = refl
and_left false b e = e

pub and_right : (a b : Bool) → (a && b) ≡ true → b ≡ true
and_right true b e = e
and_right false b e = cc

pub or_cases : (a b : Bool) → (a || b) ≡ true → (a ≡ true) ⊎ (b ≡ true)
or_cases true b e = inl refl
or_cases false b e = inr e

pub or_first : (a b : Bool) → a ≡ true → (a || b) ≡ true
or_first true b e = refl
or_first false b e = cc

pub or_second : (a b : Bool) → b ≡ true → (a || b) ≡ true
or_second true b e = refl
or_second false b e = e

pub or_nothing : (a : Bool) → (a || false) ≡ a
or_nothing true = refl
or_nothing false = refl

pub or_turn : (a b c : Bool) → (a || (b || c)) ≡ ((a || b) || c)
or_turn true b c = refl
or_turn false b c = refl

pub not_true : (a : Bool) → not a ≡ true → a ≡ false
not_true true e = sym e
not_true false e = refl

pub some_same : {X : Type 0} {x y : X} → Some x ≡ Some y → x ≡ y
some_same e = cc

pub none_some : {X : Type 0} {x : X} → None ≡ Some x → ⊥
none_some e = cc

pub never : {A : Type 0} {b : Bool} → b ≡ true → b ≡ false → A
never e f = absurd (both (sym e ∙ f))
  where
    both : true ≡ false → ⊥
    both h = cc

pub has-more : (c : List Lit) (i : ℕ) (d m : Lit) → i < length c → has (take (i + 1) c) m ≡ (has (take i c) m || lit_eq (get_or c i d) m)
has-more [] i d m lt = absurd (omega arith)
has-more (l ∷ c) zero d m lt = or_nothing (lit_eq l m)
has-more (l ∷ c) (suc i) d m lt =
    let e : suc i + 1 ≡ suc (i + 1) = omega arith in
    rw e (ap (λ b. lit_eq l m || b) (has-more c i d m (omega arith)) ∙ or_turn (lit_eq l m) (has (take i c) m) (lit_eq (get_or c i d) m))

pub has-take : (c : List Lit) (i : ℕ) (m : Lit) → has (take i c) m ≡ true → has c m ≡ true
has-take [] zero m h = h
has-take [] (suc i) m h = h
has-take (l ∷ c) zero m h = cc
has-take (l ∷ c) (suc i) m h = split (or_cases _ _ h) (has-take c i m)
  where
    split : (lit_eq l m ≡ true) ⊎ (has (take i c) m ≡ true) → (has (take i c) m ≡ true → has c m ≡ true) → (lit_eq l m || has c m) ≡ true
    split (inl a) next = or_first _ _ a
    split (inr b) next = or_second _ _ (next b)

not_at : (c : List Lit) (i : ℕ) (d : Lit) (v : ℕ) → i < length c → mentions c v ≡ false → nat_eq (get_or c i d).var v ≡ false
not_at [] i d v lt h = absurd (omega arith)
not_at (l ∷ c) zero d v lt h = or_left _ _ h
not_at (l ∷ c) (suc i) d v lt h = not_at c i d v (omega arith) (or_right _ _ h)

-- no literal before speaks of the variable of the one at i
pub once-before : (c : List Lit) (i : ℕ) (d : Lit) → i < length c → is_clause c ≡ true → mentions (take i c) (get_or c i d).var ≡ false
once-before [] i d lt h = absurd (omega arith)
once-before (l ∷ c) zero d lt h = refl
once-before (l ∷ c) (suc i) d lt h =
    let apart : nat_eq l.var (get_or c i d).var ≡ false = nat_eq_equiv.symm l.var (get_or c i d).var ∙ not_at c i d l.var (omega arith) (not_true _ (and_left _ _ h)) in
    rw apart (once-before c i d (omega arith) (and_right _ _ h))

pub has-mentions : (c : List Lit) (m : Lit) → mentions c m.var ≡ false → has c m ≡ false
has-mentions [] m h = refl
has-mentions (l ∷ c) m h =
    let apart : nat_eq l.var m.var ≡ false = or_left _ _ h in
    let rest : mentions c m.var ≡ false = or_right _ _ h in
    rw apart (has-mentions c m rest)

sign_itself : (b : Bool) → sign_eq b b ≡ true
sign_itself true = refl
sign_itself false = refl

pub itself : (l : Lit) → lit_eq l l ≡ true
itself l = rw (nat_eq_equiv.refl l.var) (sign_itself l.positive)

pub same_signs : (p q : Bool) → sign_eq p q ≡ true → p ≡ q
same_signs true true e = refl
same_signs true false e = cc
same_signs false true e = cc
same_signs false false e = refl

pub other_signs : (p q : Bool) → sign_eq p q ≡ false → q ≡ not p
other_signs true true e = cc
other_signs true false e = refl
other_signs false true e = refl
other_signs false false e = cc

abbrev lit : ℕ → Bool → Lit
lit v p = record { var = v; positive = p }

pub lit_of : (v w : ℕ) (p q : Bool) → v ≡ w → p ≡ q → lit v p ≡ lit w q
lit_of v w p q e f = ap (λ x. record { var = x; positive = p }) e ∙ ap (λ b. record { var = w; positive = b }) f

pub same_var : (l m : Lit) → lit_eq l m ≡ true → l.var ≡ m.var
same_var l m h = eqb-true l.var m.var (and_left _ _ h)

pub same : (l m : Lit) → lit_eq l m ≡ true → l ≡ m
same l m h = lit_of l.var m.var l.positive m.positive (same_var l m h) (same_signs _ _ (and_right _ _ h))

pub has-at : (c : List Lit) (i : ℕ) (d : Lit) → i < length c → has c (get_or c i d) ≡ true
has-at [] i d lt = absurd (omega arith)
has-at (l ∷ c) zero d lt = or_first _ _ (itself l)
has-at (l ∷ c) (suc i) d lt = or_second _ _ (has-at c i d (omega arith))

pub within-at : (n : ℕ) (c : List Lit) (i : ℕ) (d : Lit) → i < length c → is_within n c ≡ true → nat_lt (get_or c i d).var n ≡ true
within-at n [] i d lt h = absurd (omega arith)
within-at n (l ∷ c) zero d lt h = and_left _ _ h
within-at n (l ∷ c) (suc i) d lt h = within-at n c i d (omega arith) (and_right _ _ h)

pub true_or_false : (b : Bool) → (b ≡ true) ⊎ (b ≡ false)
true_or_false true = inl refl
true_or_false false = inr refl

pub has-append : (c e : List Lit) (m : Lit) → has (c ++ e) m ≡ (has c m || has e m)
has-append [] e m = refl
has-append (l ∷ c) e m = ap (λ b. lit_eq l m || b) (has-append c e m) ∙ or_turn (lit_eq l m) (has c m) (has e m)

pub has-push : (c : List Lit) (l m : Lit) → has (c ++ l ∷ []) m ≡ (has c m || lit_eq l m)
has-push c l m = has-append c (l ∷ []) m ∙ ap (λ b. has c m || b) (or_nothing (lit_eq l m))

pub has-drop : (c : List Lit) (i : ℕ) (m : Lit) → has (drop i c) m ≡ true → has c m ≡ true
has-drop [] zero m h = h
has-drop [] (suc i) m h = h
has-drop (l ∷ c) zero m h = h
has-drop (l ∷ c) (suc i) m h = or_second (lit_eq l m) (has c m) (has-drop c i m h)

mentions-append : (c e : List Lit) (v : ℕ) → mentions (c ++ e) v ≡ (mentions c v || mentions e v)
mentions-append [] e v = refl
mentions-append (l ∷ c) e v = ap (λ b. nat_eq l.var v || b) (mentions-append c e v) ∙ or_turn (nat_eq l.var v) (mentions c v) (mentions e v)

pub mentions-push : (c : List Lit) (l : Lit) (v : ℕ) → mentions c v ≡ false → nat_eq l.var v ≡ false → mentions (c ++ l ∷ []) v ≡ false
mentions-push c l v h e = mentions-append c (l ∷ []) v ∙ ap (λ b. b || mentions (l ∷ []) v) h ∙ or_nothing (nat_eq l.var v) ∙ e

pub clause-push : (c : List Lit) (l : Lit) → is_clause c ≡ true → mentions c l.var ≡ false → is_clause (c ++ l ∷ []) ≡ true
clause-push [] l h free = refl
clause-push (k ∷ c) l h free =
    let apart : nat_eq l.var k.var ≡ false = nat_eq_equiv.symm l.var k.var ∙ or_left _ _ free in
    let gone : mentions (c ++ l ∷ []) k.var ≡ false = mentions-push c l k.var (not_true _ (and_left _ _ h)) apart in
    rw gone (clause-push c l (and_right _ _ h) (or_right _ _ free))

pub within-append : (n : ℕ) (c e : List Lit) → is_within n c ≡ true → is_within n e ≡ true → is_within n (c ++ e) ≡ true
within-append n [] e h k = k
within-append n (l ∷ c) e h k = let here : nat_lt l.var n ≡ true = and_left _ _ h in rw here (within-append n c e (and_right _ _ h) k)

-- one clause of a list of clauses
pub clause_at : (cs : List (List Lit)) (i : ℕ) (c : List Lit) → are_clauses cs ≡ true → slice_get cs i ≡ Some c → is_clause c ≡ true
clause_at [] i c h e = absurd (none_some e)
clause_at (x ∷ cs) zero c h e = subst (λ y. is_clause y ≡ true) (some_same e) (and_left _ _ h)
clause_at (x ∷ cs) (suc i) c h e = clause_at cs i c (and_right _ _ h) e

pub within_get : (n : ℕ) (cs : List (List Lit)) (i : ℕ) (c : List Lit) → are_within n cs ≡ true → slice_get cs i ≡ Some c → is_within n c ≡ true
within_get n [] i c h e = absurd (none_some e)
within_get n (x ∷ cs) zero c h e = subst (λ y. is_within n y ≡ true) (some_same e) (and_left _ _ h)
within_get n (x ∷ cs) (suc i) c h e = within_get n cs i c (and_right _ _ h) e

pub are_within-push : (n : ℕ) (cs : List (List Lit)) (c : List Lit) → are_within n cs ≡ true → is_within n c ≡ true → are_within n (cs ++ c ∷ []) ≡ true
are_within-push n [] c h k = rw k refl
are_within-push n (x ∷ cs) c h k = let here : is_within n x ≡ true = and_left _ _ h in rw here (are_within-push n cs c (and_right _ _ h) k)
