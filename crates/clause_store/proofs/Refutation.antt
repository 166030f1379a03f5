-- Resolution keeps what is true. A clause of the layers above says what it shows of the facts of one problem: a statement
-- for all meanings of the variables is none that a clause can say.
use Rattle.std.proofs.Common.{◌≡◌, ℕ, zero, suc, Bool, true, false, not, ◌||◌, nat_eq, List, [], ◌∷◌, Some, slice_get, refl, sym, ap, ◌∙◌, subst, ◌⊎◌, inl, inr, eqb-true, eq-eqb, arith}
use Rattle.clause_store.specs.declared.lit.Lit.{Lit}
use Rattle.clause_store.specs.Clauses.{has, opposite}
use Rattle.clause_store.specs.Chained.{LitSet, ClashesOnce, union, without, ResolvesTo, IsChained}
use Rattle.clause_store.proofs.Sets.{some_same, none_some, true_or_false, never, lit_of, and_left, and_right, or_cases, or_first, or_second, not_true}

abbrev pub Each : {X : Type 0} → (X → Type 0) → List X → Type 0
Each P [] = Unit {0}
Each P (x ∷ xs) = P x × Each P xs

-- what a literal says, where the variables mean these facts
abbrev pub HoldsIf : Bool → Type 0 → Type 0
HoldsIf true A = A
HoldsIf false A = ¬ A

abbrev pub LitHolds : (ℕ → Type 0) → Lit → Type 0
LitHolds M l = HoldsIf l.positive (M l.var)

-- not all of them are false; in ordinary logic, some literal is true
abbrev pub NotAllFalse : (ℕ → Type 0) → LitSet → Type 0
NotAllFalse M a = ¬ ((l : Lit) → a l ≡ true → ¬ (LitHolds M l))

-- no variable stands in it with both signs
abbrev pub NoTautology : LitSet → Type 0
NoTautology a = (l : Lit) → a l ≡ true → a (opposite l) ≡ false

-- a true clause that is no tautology
pub record Sound (M : ℕ → Type 0) (a : LitSet) : Type 0 where
  pub holds : NotAllFalse M a
  pub plain : NoTautology a

not_not : (p : Bool) → not (not p) ≡ p
not_not true = refl
not_not false = refl

pub opposite_twice : (l : Lit) → opposite (opposite l) ≡ l
opposite_twice l = lit_of l.var l.var (not (not l.positive)) l.positive refl (not_not l.positive)

-- two literals of one variable are equal or opposite
pub same_or_opposite : (l m : Lit) → l.var ≡ m.var → (l ≡ m) ⊎ (l ≡ opposite m)
same_or_opposite l m e = split l.positive m.positive refl refl
  where
    split : (p q : Bool) → l.positive ≡ p → m.positive ≡ q → (l ≡ m) ⊎ (l ≡ opposite m)
    split true true f g = inl (lit_of l.var m.var l.positive m.positive e (f ∙ sym g))
    split true false f g = inr (lit_of l.var m.var l.positive (not m.positive) e (f ∙ sym (ap not g)))
    split false true f g = inr (lit_of l.var m.var l.positive (not m.positive) e (f ∙ sym (ap not g)))
    split false false f g = inl (lit_of l.var m.var l.positive m.positive e (f ∙ sym g))

-- in a clause that is no tautology
the_one : (a : LitSet) (l m : Lit) → NoTautology a → a l ≡ true → a m ≡ true → l.var ≡ m.var → l ≡ m
the_one a l m plain h g e = split (same_or_opposite l m e)
  where
    split : (l ≡ m) ⊎ (l ≡ opposite m) → l ≡ m
    split (inl f) = f
    split (inr f) = never h (subst (λ x. a x ≡ false) (sym f) (plain m g))

stays : (a b : LitSet) (v : ℕ) (l : Lit) → (a l || b l) ≡ true → nat_eq l.var v ≡ false → without (union a b) v l ≡ true
stays a b v l h e = rw (h, e) refl

opposed : (M : ℕ → Type 0) (l : Lit) → ¬ (¬ (LitHolds M l)) → ¬ (LitHolds M (opposite l))
opposed M l h = at l.positive h
  where
    at : (p : Bool) → ¬ (¬ (HoldsIf p (M l.var))) → ¬ (HoldsIf (not p) (M l.var))
    at true h g = h g
    at false h g = h (λ n. n g)

pub resolvent_sound : (M : ℕ → Type 0) (a b : LitSet) (v : ℕ) → Sound M a → Sound M b → ClashesOnce a b v → Sound M (without (union a b) v)
resolvent_sound M a b v p q once =
    record {
      holds = λ all.
          let l0 = once.0.0 in
          let at0 : l0.var ≡ v = once.0.1 in
          let in_b : ¬ (¬ (LitHolds M l0)) = λ no0. q.holds (λ l h. pick l (b l) (or_second _ _ h) (true_or_false (nat_eq l.var v)) all
          (λ e. subst (λ x. ¬ (LitHolds M x)) (sym (the_one b l l0 q.plain h once.0.2.1 (e ∙ sym at0))) no0)) in
          p.holds (λ l h. pick l (b l) (or_first _ _ h) (true_or_false (nat_eq l.var v)) all
          (λ e. subst (λ x. ¬ (LitHolds M x)) (sym (the_one a l (opposite l0) p.plain h once.0.2.0 (e ∙ sym at0))) (opposed M l0 in_b)));
      plain = λ l h. no_both l h (true_or_false (without (union a b) v (opposite l)));
    }
  where
    pick : (l : Lit) (y : Bool) → (a l || b l) ≡ true → (nat_eq l.var v ≡ true) ⊎ (nat_eq l.var v ≡ false) → ((m : Lit) → without (union a b) v m ≡ true → ¬ (LitHolds M m)) → (l.var ≡ v → ¬ (LitHolds M l)) → ¬ (LitHolds M l)
    pick l y h (inl e) all at = at (eqb-true l.var v e)
    pick l y h (inr e) all at = all l (stays a b v l h e)

    clashed : (l : Lit) → (a l || b l) ≡ true → (a (opposite l) || b (opposite l)) ≡ true → l.var ≡ v
    clashed l h g = split (or_cases _ _ h) (or_cases _ _ g)
      where
        split : (a l ≡ true) ⊎ (b l ≡ true) → (a (opposite l) ≡ true) ⊎ (b (opposite l) ≡ true) → l.var ≡ v
        split (inl x) (inl y) = never y (p.plain l x)
        split (inl x) (inr y) = once.1 (opposite l) (subst (λ m. a m ≡ true) (sym (opposite_twice l)) x, y)
        split (inr x) (inl y) = once.1 l (y, x)
        split (inr x) (inr y) = never y (q.plain l x)

    no_both : (l : Lit) → without (union a b) v l ≡ true → (without (union a b) v (opposite l) ≡ true) ⊎ (without (union a b) v (opposite l) ≡ false) → without (union a b) v (opposite l) ≡ false
    no_both l h (inr g) = g
    no_both l h (inl g) = never (eq-eqb l.var v (clashed l (and_left _ _ h) (and_left _ _ g))) (not_true _ (and_right _ _ h))

sound_at : (M : ℕ → Type 0) (cs : List (List Lit)) (i : ℕ) (b : List Lit) → Each (λ c. Sound M (has c)) cs → slice_get cs i ≡ Some b → Sound M (has b)
sound_at M [] i b all e = absurd (none_some e)
sound_at M (c ∷ cs) zero b all e = subst (λ x. Sound M (has x)) (some_same e) all.0
sound_at M (c ∷ cs) (suc i) b all e = sound_at M cs i b all.1 e

pub chain_sound : (M : ℕ → Type 0) (cs : List (List Lit)) (ids : List ℕ) (a c : LitSet) → Each (λ x. Sound M (has x)) cs → Sound M a → ResolvesTo cs a ids c → Sound M c
chain_sound M cs [] a c all s e = subst (Sound M) e s
chain_sound M cs (i ∷ ids) a c all s h =
    chain_sound M cs ids (without (union a (has h.0)) h.1) c all (resolvent_sound M a (has h.0) h.1 s (sound_at M cs i h.0 all h.2) h.3) h.4

pub chained_sound : (M : ℕ → Type 0) (cs : List (List Lit)) (ids : List ℕ) (c : List Lit) → Each (λ x. Sound M (has x)) cs → IsChained cs ids c → Sound M (has c)
chained_sound M cs [] c all h = absurd (omega (arith, h.0))
chained_sound M cs (i ∷ ids) c all h = chain_sound M cs ids (has h.1.0) (has c) all (sound_at M cs i h.1.0 all h.1.1) h.1.2

-- the empty clause is not true
pub empty_not_sound : (M : ℕ → Type 0) → Sound M (has []) → ⊥
empty_not_sound M s = s.holds (λ l h. never {b = false} h refl)
