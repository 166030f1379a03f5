-- Literals that are gathered one after another, each once, and the clause that they give.
use Rattle.std.proofs.Common.{◌≡◌, ◌⊎◌, inl, inr, ℕ, zero, suc, ◌+◌, ◌≤◌, length, Bool, true, false, not, ◌&&◌, ◌||◌, cond, List, [], ◌∷◌, ◌++◌, take, Option, Some, None, slice_get, refl, sym, ap, ◌∙◌, subst, add-one, IsTrue, ◌<◌, get_or}
use mathlib.Core.Bool.{beq}
use Rattle.std.proofs.lemmas.Option.{slice_get-get_or}
use Rattle.std.specs.List.{list_any, filter}
use Rattle.repair_problem.specs.declared.atom.Atom.{Atom}
use Rattle.repair_problem.specs.declared.atom.Literal.{Literal}
use Rattle.repair_problem.specs.declared.atom.Part.{Part}
use Rattle.repair_problem.specs.declared.atom.Part.TheVariants.{Fixed, Lit}
use Rattle.repair_problem.specs.contracts.atom.AtomPartialEq.TheImpl.{eq-value}
use Rattle.count_encode.specs.PartTruth.{signed, opposite}
use Rattle.core_constraints.proofs.Decided.{no_false, false_of, take_whole}
use Rattle.atom_parts.specs.PartLiterals.{In, literals}
use Rattle.atom_parts.proofs.Facts.{any_true, any_some, some_append, none_some, some_is}
use Rattle.premise_rules.specs.declared.clause.Clause.TheVariants.{Literals, Tautology}
use Rattle.premise_rules.specs.Literals.{same_atom, same_literal, among, is_fixed_true, has_both_signs, is_tautology, distinct, finished}
use Rattle.premise_rules.specs.LiteralSets.{is_found, AreSigns, added, with_part, fits}
use Rattle.premise_rules.proofs.SameLiterals.{atom_is, atom_itself, same_is, same_itself, value_is, value_itself, tests_same}
use Rattle.premise_rules.proofs.AnsweredLiterals.{Finished, literals_kept, literals_only}

or_false : (b : Bool) → (b || false) ≡ b
or_false true = refl
or_false false = refl

or_true : (b : Bool) → (b || true) ≡ true
or_true true = refl
or_true false = refl

and_false : (b : Bool) → (b && false) ≡ false
and_false true = refl
and_false false = refl

and_true : (b : Bool) → (b && true) ≡ b
and_true true = refl
and_true false = refl

not_not : (b : Bool) → not (not b) ≡ b
not_not true = refl
not_not false = refl

signed_turned : (p q : Bool) → signed p q ≡ signed q p
signed_turned true true = refl
signed_turned true false = refl
signed_turned false true = refl
signed_turned false false = refl

-- the signs of the atoms of a list
pub no_signs : (found : Atom → Option Bool) → ((a : Atom) → found a ≡ None) → AreSigns [] found
no_signs found none l = sym (ap (λ o. is_found o l.positive) (none l.atom))

any_more : {X : Type 0} (p : X → Bool) (xs : List X) (x : X) → list_any p (xs ++ x ∷ []) ≡ (list_any p xs || p x)
any_more p [] x = or_false (p x)
any_more p (y ∷ xs) x = go (p y) (any_more p xs x)
  where
    go : (b : Bool) → list_any p (xs ++ x ∷ []) ≡ (list_any p xs || p x) → (b || list_any p (xs ++ x ∷ [])) ≡ ((b || list_any p xs) || p x)
    go true e = refl
    go false e = e

pub signs_more : (ls : List Literal) (found more : Atom → Option Bool) (x : Literal) → AreSigns ls found → found x.atom ≡ None → more x.atom ≡ Some x.positive → ((q : Atom) → eq-value.it x.atom q ≡ false → more q ≡ found q) → AreSigns (ls ++ x ∷ []) more
signs_more ls found more x signs none here others l = any_more (same_literal l) ls x ∙ at (eq-value.it x.atom l.atom) refl
  where
    at : (b : Bool) → eq-value.it x.atom l.atom ≡ b → (among ls l || same_literal l x) ≡ is_found (more l.atom) l.positive
    at true e =
        let a : x.atom ≡ l.atom = value_is x.atom l.atom e in
        let out : among ls l ≡ false = signs l ∙ ap (λ o. is_found o l.positive) (subst (λ c. found c ≡ None) a none) in
        let own : same_atom l.atom x.atom ≡ true = subst (λ c. same_atom l.atom c ≡ true) (sym a) (atom_itself l.atom) in
        let left : (among ls l || same_literal l x) ≡ signed l.positive x.positive = ap (λ b. b || same_literal l x) out ∙ (ap (λ b. signed l.positive x.positive && b) own ∙ and_true (signed l.positive x.positive)) in
        left ∙ (signed_turned l.positive x.positive ∙ sym (ap (λ o. is_found o l.positive) (subst (λ c. more c ≡ Some x.positive) a here)))
    at false e =
        let apart : same_atom l.atom x.atom ≡ false = false_of (same_atom l.atom x.atom) (λ h. no_false (eq-value.it x.atom l.atom) (itself (sym (atom_is l.atom x.atom h))) e) in
        let left : (among ls l || same_literal l x) ≡ among ls l = ap (λ b. among ls l || (signed l.positive x.positive && b)) apart ∙ (ap (λ b. among ls l || b) (and_false (signed l.positive x.positive)) ∙ or_false (among ls l)) in
        left ∙ (signs l ∙ sym (ap (λ o. is_found o l.positive) (others l.atom e)))
      where
        itself : x.atom ≡ l.atom → eq-value.it x.atom l.atom ≡ true
        itself g = subst (λ c. eq-value.it x.atom c ≡ true) g (value_itself x.atom)

-- where the atom of a literal is found, and where it isn't
among_found : (ls : List Literal) (found : Atom → Option Bool) → AreSigns ls found → (l : Literal) (sign : Bool) → found l.atom ≡ Some sign → among ls l ≡ signed sign l.positive
among_found ls found signs l sign e = signs l ∙ ap (λ o. is_found o l.positive) e

opposite_found : (ls : List Literal) (found : Atom → Option Bool) → AreSigns ls found → (l : Literal) (sign : Bool) → found l.atom ≡ Some sign → among ls (opposite l) ≡ signed sign (not l.positive)
opposite_found ls found signs l sign e = among_found ls found signs (opposite l) sign e

pub among_missing : (ls : List Literal) (found : Atom → Option Bool) → AreSigns ls found → (l : Literal) → found l.atom ≡ None → among ls l ≡ false
among_missing ls found signs l e = signs l ∙ ap (λ o. is_found o l.positive) e

-- members
among_in : (ls : List Literal) (l : Literal) → among ls l ≡ true → In ls l
among_in ls l h = let r = any_some (same_literal l) ls h in subst (In ls) (sym (same_is l r.0 r.2)) r.1

in_among : (ls : List Literal) (l : Literal) → In ls l → among ls l ≡ true
in_among ls l h = any_true (same_literal l) ls l h (same_itself l)

in_more : {X : Type 0} (xs : List X) (x y : X) → In (xs ++ x ∷ []) y → In xs y ⊎ (x ≡ y)
in_more {X} xs x y h = go ((some_append (λ (z : X). z ≡ y) xs (x ∷ [])).1 h)
  where
    go : In xs y ⊎ ((x ≡ y) ⊎ ⊥) → In xs y ⊎ (x ≡ y)
    go (inl g) = inl g
    go (inr (inl g)) = inr g
    go (inr (inr g)) = absurd g

opposite_twice : (l : Literal) → opposite (opposite l) ≡ l
opposite_twice l = λ i. record { atom = l.atom; positive = not_not l.positive i }

not_opposite : (l : Literal) → l ≡ opposite l → ⊥
not_opposite l e = go l.positive (ap (λ (m : Literal). m.positive) e)
  where
    go : (b : Bool) → b ≡ not b → ⊥
    go true h = no_false true refl h
    go false h = no_false false (h ∙ refl) refl

-- one more literal
both_more : (ls : List Literal) (x : Literal) → has_both_signs ls ≡ false → among ls (opposite x) ≡ false → has_both_signs (ls ++ x ∷ []) ≡ false
both_more ls x none out = false_of (has_both_signs (ls ++ x ∷ [])) (λ h. let r = any_some (λ l. among (ls ++ x ∷ []) (opposite l)) (ls ++ x ∷ []) h in split r.0 (in_more ls x r.0 r.1) (in_more ls x (opposite r.0) (among_in (ls ++ x ∷ []) (opposite r.0) r.2)))
  where
    missing : In ls (opposite x) → ⊥
    missing h = no_false (among ls (opposite x)) (in_among ls (opposite x) h) out

    split : (l : Literal) → In ls l ⊎ (x ≡ l) → In ls (opposite l) ⊎ (x ≡ opposite l) → ⊥
    split l (inl h) (inl g) = no_false (has_both_signs ls) (any_true (λ k. among ls (opposite k)) ls l h (in_among ls (opposite l) g)) none
    split l (inl h) (inr g) = missing (subst (In ls) (sym (ap opposite g ∙ opposite_twice l)) h)
    split l (inr h) (inl g) = missing (subst (λ k. In ls (opposite k)) (sym h) g)
    split l (inr h) (inr g) = not_opposite l (sym h ∙ g)

filter_more : {X : Type 0} (p : X → Bool) (xs : List X) (x : X) → filter p (xs ++ x ∷ []) ≡ filter p xs ++ cond (p x) (x ∷ []) []
filter_more p [] x = refl
filter_more p (y ∷ xs) x = go (p y) (filter_more p xs x)
  where
    go : (b : Bool) → filter p (xs ++ x ∷ []) ≡ filter p xs ++ cond (p x) (x ∷ []) [] → cond b (y ∷ filter p (xs ++ x ∷ [])) (filter p (xs ++ x ∷ [])) ≡ cond b (y ∷ filter p xs) (filter p xs) ++ cond (p x) (x ∷ []) []
    go true e = ap (λ ys. y ∷ ys) e
    go false e = e

append_none : {X : Type 0} (xs : List X) → xs ++ [] ≡ xs
append_none [] = refl
append_none (x ∷ xs) = ap (λ ys. x ∷ ys) (append_none xs)

same_turned : (l m : Literal) (b : Bool) → same_literal l m ≡ b → same_literal m l ≡ b
same_turned l m true e = subst (λ k. same_literal k l ≡ true) (same_is l m e) (same_itself l)
same_turned l m false e = false_of (same_literal m l) (λ h. no_false (same_literal l m) (subst (λ k. same_literal k m ≡ true) (same_is m l h) (same_itself m)) e)

among_filter : (l x : Literal) (ds : List Literal) → same_literal l x ≡ false → among (filter (λ m. not (same_literal l m)) ds) x ≡ among ds x
among_filter l x [] apart = refl
among_filter l x (d ∷ ds) apart = go (same_literal l d) refl (among_filter l x ds apart)
  where
    go : (b : Bool) → same_literal l d ≡ b → among (filter (λ m. not (same_literal l m)) ds) x ≡ among ds x → among (cond (not b) (d ∷ filter (λ m. not (same_literal l m)) ds) (filter (λ m. not (same_literal l m)) ds)) x ≡ (same_literal x d || among ds x)
    go true e more = more ∙ sym (ap (λ b. b || among ds x) (subst (λ k. same_literal x k ≡ false) (same_is l d e) (same_turned l x false apart)))
    go false e more = ap (λ b. same_literal x d || b) more

distinct_more : (ls : List Literal) (x : Literal) → distinct (ls ++ x ∷ []) ≡ added (distinct ls) x
distinct_more [] x = refl
distinct_more (l ∷ ls) x = ap (λ ys. l ∷ filter (λ m. not (same_literal l m)) ys) (distinct_more ls x) ∙ go (same_literal l x) (among (distinct ls) x) refl refl
  where
    others : List Literal
    others = filter (λ m. not (same_literal l m)) (distinct ls)

    tested : same_literal l x ≡ false → (same_literal x l || among others x) ≡ among (distinct ls) x
    tested e = ap (λ b. b || among others x) (same_turned l x false e) ∙ among_filter l x (distinct ls) e

    kept : same_literal l x ≡ true → (c : Bool) → filter (λ m. not (same_literal l m)) (cond c (distinct ls) (distinct ls ++ x ∷ [])) ≡ others
    kept e true = refl
    kept e false = filter_more (λ m. not (same_literal l m)) (distinct ls) x ∙ (ap (λ b. others ++ cond (not b) (x ∷ []) []) e ∙ append_none others)

    go : (b c : Bool) → same_literal l x ≡ b → among (distinct ls) x ≡ c → l ∷ filter (λ m. not (same_literal l m)) (cond c (distinct ls) (distinct ls ++ x ∷ [])) ≡ cond (same_literal x l || among others x) (l ∷ others) (l ∷ (others ++ x ∷ []))
    go true c e f = ap (λ ys. l ∷ ys) (kept e c) ∙ sym (ap (λ b. cond (b || among others x) (l ∷ others) (l ∷ (others ++ x ∷ []))) (same_turned l x true e))
    go false true e f = sym (ap (λ b. cond b (l ∷ others) (l ∷ (others ++ x ∷ []))) (tested e ∙ f))
    go false false e f = ap (λ ys. l ∷ ys) (filter_more (λ m. not (same_literal l m)) (distinct ls) x ∙ ap (λ b. others ++ cond (not b) (x ∷ []) []) e) ∙ sym (ap (λ b. cond b (l ∷ others) (l ∷ (others ++ x ∷ []))) (tested e ∙ f))

-- the parts so far
pub take_none : {X : Type 0} (xs : List X) → take 0 xs ≡ []
take_none [] = refl
take_none (x ∷ xs) = refl

pub take_next : {X : Type 0} (xs : List X) (k : ℕ) (x : X) → slice_get xs k ≡ Some x → take (k + 1) xs ≡ take k xs ++ x ∷ []
take_next {X} xs k x e = ap (λ n. take n xs) (add-one k) ∙ go xs k e
  where
    go : (ys : List X) (n : ℕ) → slice_get ys n ≡ Some x → take (suc n) ys ≡ take n ys ++ x ∷ []
    go [] n h = absurd (none_some h)
    go (y ∷ ys) zero h = ap (λ zs. y ∷ zs) (take_none ys) ∙ ap (λ z. z ∷ []) (some_is h)
    go (y ∷ ys) (suc n) h = ap (λ zs. y ∷ zs) (go ys n h)

literals_fixed : (ps : List Part) (b : Bool) → literals (ps ++ Fixed b ∷ []) ≡ literals ps
literals_fixed [] b = refl
literals_fixed (Fixed c ∷ ps) b = literals_fixed ps b
literals_fixed (Lit l ∷ ps) b = ap (λ ls. l ∷ ls) (literals_fixed ps b)

literals_more : (ps : List Part) (x : Literal) → literals (ps ++ Lit x ∷ []) ≡ literals ps ++ x ∷ []
literals_more [] x = refl
literals_more (Fixed c ∷ ps) x = literals_more ps x
literals_more (Lit l ∷ ps) x = ap (λ ls. l ∷ ls) (literals_more ps x)

in_get : {X : Type 0} (xs : List X) (k : ℕ) (x : X) → slice_get xs k ≡ Some x → In xs x
in_get [] k x e = absurd (none_some e)
in_get (y ∷ xs) zero x e = inl (some_is e)
in_get (y ∷ xs) (suc k) x e = inr (in_get xs k x e)

in_take : {X : Type 0} (xs : List X) (k : ℕ) (x : X) → In (take k xs) x → In xs x
in_take [] zero x h = h
in_take [] (suc k) x h = h
in_take (y ∷ xs) zero x h = absurd h
in_take (y ∷ xs) (suc k) x (inl e) = inl e
in_take (y ∷ xs) (suc k) x (inr h) = inr (in_take xs k x h)

in_literals : (ps : List Part) (l : Literal) → In ps (Lit l) → In (literals ps) l
in_literals [] l h = h
in_literals (Fixed b ∷ ps) l (inl e) = absurd (cc)
in_literals (Fixed b ∷ ps) l (inr h) = in_literals ps l h
in_literals (Lit m ∷ ps) l (inl e) = inl (cc)
in_literals (Lit m ∷ ps) l (inr h) = inr (in_literals ps l h)

literals_in : (ps : List Part) (l : Literal) → In (literals ps) l → In ps (Lit l)
literals_in [] l h = h
literals_in (Fixed b ∷ ps) l h = inr (literals_in ps l h)
literals_in (Lit m ∷ ps) l (inl e) = inl (ap Lit e)
literals_in (Lit m ∷ ps) l (inr h) = inr (literals_in ps l h)

-- the clause of no parts, with one part more, and of all
passed_none : Finished [] []
passed_none = record { no_fixed = refl; no_both = refl; same = refl }

passed_fixed : (ps : List Part) (k : ℕ) (ls : List Literal) → slice_get ps k ≡ Some (Fixed false) → Finished (take k ps) ls → Finished (take (k + 1) ps) ls
passed_fixed ps k ls e f = subst (λ qs. Finished qs ls) (sym (take_next ps k (Fixed false) e)) (record {
  no_fixed = any_more is_fixed_true (take k ps) (Fixed false) ∙ ap (λ b. b || false) f.no_fixed;
  no_both = ap has_both_signs (literals_fixed (take k ps) false) ∙ f.no_both;
  same = ap distinct (literals_fixed (take k ps) false) ∙ f.same;
})

passed_literal : (ps : List Part) (k : ℕ) (ls : List Literal) (x : Literal) → slice_get ps k ≡ Some (Lit x) → Finished (take k ps) ls → among ls (opposite x) ≡ false → Finished (take (k + 1) ps) (added ls x)
passed_literal ps k ls x e f out = subst (λ qs. Finished qs (added ls x)) (sym (take_next ps k (Lit x) e)) (record {
  no_fixed = any_more is_fixed_true (take k ps) (Lit x) ∙ ap (λ b. b || false) f.no_fixed;
  no_both = ap has_both_signs (literals_more (take k ps) x) ∙ both_more (literals (take k ps)) x f.no_both missing;
  same = ap distinct (literals_more (take k ps) x) ∙ (distinct_more (literals (take k ps)) x ∙ ap (λ ms. added ms x) f.same);
})
  where
    missing : among (literals (take k ps)) (opposite x) ≡ false
    missing = false_of (among (literals (take k ps)) (opposite x)) (λ h. no_false (among ls (opposite x)) (in_among ls (opposite x) (subst (λ ms. In ms (opposite x)) f.same (literals_kept (literals (take k ps)) (opposite x) (among_in (literals (take k ps)) (opposite x) h)))) out)

passed_all : (ps : List Part) (ls : List Literal) → Finished ps ls → finished (Some ps) ≡ Literals ls
passed_all ps ls f = ap (λ b. cond (b || has_both_signs (literals ps)) Tautology (Literals (distinct (literals ps)))) f.no_fixed ∙ (ap (λ b. cond b Tautology (Literals (distinct (literals ps)))) f.no_both ∙ ap Literals f.same)

-- parts that make the clause a tautology
tautology : (ps : List Part) → is_tautology ps ≡ true → finished (Some ps) ≡ Tautology
tautology ps e = ap (λ b. cond b Tautology (Literals (distinct (literals ps)))) e

tautology_fixed : (ps : List Part) (k : ℕ) → slice_get ps k ≡ Some (Fixed true) → finished (Some ps) ≡ Tautology
tautology_fixed ps k e = tautology ps (ap (λ b. b || has_both_signs (literals ps)) (any_true is_fixed_true ps (Fixed true) (in_get ps k (Fixed true) e) refl))

tautology_both : (ps : List Part) (k : ℕ) (ls : List Literal) (x : Literal) → slice_get ps k ≡ Some (Lit x) → Finished (take k ps) ls → among ls (opposite x) ≡ true → finished (Some ps) ≡ Tautology
tautology_both ps k ls x e f h =
    let here : In (literals ps) x = in_literals ps x (in_get ps k (Lit x) e) in
    let above : In (literals (take k ps)) (opposite x) = literals_only (literals (take k ps)) (opposite x) (subst (λ ms. In ms (opposite x)) (sym f.same) (among_in ls (opposite x) h)) in
    let other : In (literals ps) (opposite x) = in_literals ps (opposite x) (in_take ps k (Lit (opposite x)) (literals_in (take k ps) (opposite x) above)) in
    tautology ps (ap (λ b. list_any is_fixed_true ps || b) (any_true (λ l. among (literals ps) (opposite l)) (literals ps) x here (in_among (literals ps) (opposite x) other)) ∙ or_true (list_any is_fixed_true ps))

-- what is answered of a literal whose atom is found
pub found_value : (ls : List Literal) (found : Atom → Option Bool) → AreSigns ls found → (l : Literal) (sign : Bool) → found l.atom ≡ Some sign → beq sign l.positive ≡ not (among ls (opposite l))
found_value ls found signs l sign e = at sign l.positive ∙ ap not (sym (opposite_found ls found signs l sign e))
  where
    at : (s p : Bool) → beq s p ≡ not (signed s (not p))
    at true true = refl
    at true false = refl
    at false true = refl
    at false false = refl

pub found_there : (ls : List Literal) (found : Atom → Option Bool) → AreSigns ls found → (l : Literal) (sign : Bool) → found l.atom ≡ Some sign → IsTrue (beq sign l.positive) → ls ≡ added ls l
found_there ls found signs l sign e h = sym (ap (λ b. cond b ls (ls ++ l ∷ [])) (among_found ls found signs l sign e ∙ at sign l.positive h))
  where
    at : (s p : Bool) → IsTrue (beq s p) → signed s p ≡ true
    at true true h = refl
    at true false h = h
    at false true h = h
    at false false h = refl

pub missing_added : (ls : List Literal) (found : Atom → Option Bool) → AreSigns ls found → (l : Literal) → found l.atom ≡ None → ls ++ l ∷ [] ≡ added ls l
missing_added ls found signs l e = sym (ap (λ b. cond b ls (ls ++ l ∷ [])) (among_missing ls found signs l e))

-- the same, of the test that a map makes
pub of_values : (ls : List Literal) (look_up : (Atom → Atom → Bool) → Atom → Option Bool) → AreSigns ls (look_up same_atom) → AreSigns ls (look_up eq-value.it)
of_values ls look_up signs = subst (λ (E : Atom → Atom → Bool). AreSigns ls (look_up E)) tests_same signs

pub to_values : (ls : List Literal) (look_up : (Atom → Atom → Bool) → Atom → Option Bool) → AreSigns ls (look_up eq-value.it) → AreSigns ls (look_up same_atom)
to_values ls look_up signs = subst (λ (E : Atom → Atom → Bool). AreSigns ls (look_up E)) (sym tests_same) signs

-- the parts of a list, from none to all
pub passed_start : (ps : List Part) (ls : List Literal) → ls ≡ [] → Finished (take 0 ps) ls
passed_start ps ls e = subst (λ qs. Finished qs ls) (sym (take_none ps)) (subst (Finished []) (sym e) passed_none)

pub passed_end : (ps : List Part) (k : ℕ) (ls : List Literal) → length ps ≤ k → Finished (take k ps) ls → Literals ls ≡ finished (Some ps)
passed_end ps k ls le f = sym (passed_all ps ls (subst (λ qs. Finished qs ls) (take_whole ps k le) f))

-- one part more, and a part that makes the clause a tautology
passed_part : (ps : List Part) (k : ℕ) (ls : List Literal) (p : Part) → slice_get ps k ≡ Some p → Finished (take k ps) ls → fits ls p ≡ true → Finished (take (k + 1) ps) (with_part ls p)
passed_part ps k ls (Fixed true) e f h = absurd (no_false false h refl)
passed_part ps k ls (Fixed false) e f h = passed_fixed ps k ls e f
passed_part ps k ls (Lit x) e f h = passed_literal ps k ls x e f (sym (not_not (among ls (opposite x))) ∙ ap not h)

tautology_part : (ps : List Part) (k : ℕ) (ls : List Literal) (p : Part) → slice_get ps k ≡ Some p → Finished (take k ps) ls → fits ls p ≡ false → Tautology ≡ finished (Some ps)
tautology_part ps k ls (Fixed true) e f h = sym (tautology_fixed ps k e)
tautology_part ps k ls (Fixed false) e f h = absurd (no_false true refl h)
tautology_part ps k ls (Lit x) e f h = sym (tautology_both ps k ls x e f (sym (not_not (among ls (opposite x))) ∙ ap not h))

-- by what is answered of the part at a place
pub passed_more : (ps : List Part) (k : ℕ) (d : Part) (ls new : List Literal) (b : Bool) → k < length ps → Finished (take k ps) ls → b ≡ fits ls (get_or ps k d) → (IsTrue b → new ≡ with_part ls (get_or ps k d)) → b ≡ true → Finished (take (k + 1) ps) new
passed_more ps k d ls new b lt f v l t = subst (Finished (take (k + 1) ps)) (sym (l t)) (passed_part ps k ls (get_or ps k d) (slice_get-get_or ps k d lt) f (sym v ∙ t))

pub stopped_here : (ps : List Part) (k : ℕ) (d : Part) (ls : List Literal) (b : Bool) → k < length ps → Finished (take k ps) ls → b ≡ fits ls (get_or ps k d) → b ≡ false → Tautology ≡ finished (Some ps)
stopped_here ps k d ls b lt f v t = tautology_part ps k ls (get_or ps k d) (slice_get-get_or ps k d lt) f (sym v ∙ t)
