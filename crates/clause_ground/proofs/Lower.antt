-- Each atom that fixes another one stands in a clause of that one.
use Rattle.std.proofs.Common.{◌≡◌, ◌≢◌, ◌⊎◌, inl, inr, ℕ, zero, suc, ◌-◌, ◌<◌, ◌≤◌, Bool, true, false, not, ◌||◌, nat_eq, nat_lt, nat_le, IsTrue, cond, List, [], ◌∷◌, map, length, Option, Some, None, slice_get, refl, sym, ap, ◌∙◌, subst, arith, if◌then◌else◌}
use Rattle.std.proofs.lemmas.Option.{slice_get_within}
use Rattle.repair_problem.specs.declared.atom.Atom.{Atom}
use Rattle.repair_problem.specs.declared.atom.Atom.TheVariants.{Count}
use Rattle.repair_problem.specs.declared.atom.Literal.{Literal}
use Rattle.repair_problem.specs.declared.atom.Part.{Part}
use Rattle.repair_problem.specs.declared.atom.Part.TheVariants.{Fixed, Lit}
use Rattle.path_levels.specs.PathParts.{literal}
use Rattle.count_encode.specs.PartTruth.{signed, opposite, negation, literal_value, part_value, is_true}
use Rattle.count_encode.specs.Counts.{counted, count_parts}
use Rattle.core_constraints.proofs.Decided.{no_false}
use Rattle.atom_parts.specs.PartLiterals.{In, literals}
use Rattle.atom_parts.specs.Fixing.{Fixing, NoAtom, Free, ByParts, ByCount, lower, IsPositive, IsOfAtom, IsFounded, founded, IsOrdered}
use Rattle.premise_rules.specs.declared.clause.Clause.TheVariants.{Literals, Tautology}
use Rattle.premise_rules.specs.Literals.{same_atom, is_tautology, distinct, finished}
use Rattle.premise_rules.specs.PlaceClauses.{place_clause, clause_at, places}
use Rattle.premise_rules.proofs.AnsweredLiterals.{literals_kept}
use Rattle.premise_rules.proofs.SameLiterals.{atom_is, atom_itself}
use Rattle.atom_numbers.specs.Numbers.{Stands}
use Rattle.clause_ground.proofs.PartValues.{tautology_value}

stands_in : (ls : List Literal) (l : Literal) → In ls l → Stands ls l.atom
stands_in [] l h = absurd h
stands_in (m ∷ ls) l (inl e) = inl (ap (λ (x : Literal). x.atom) e)
stands_in (m ∷ ls) l (inr h) = inr (stands_in ls l h)

-- the clause of the parts is no tautology, and the atom stands in it
abbrev pub Shows : List Part → Atom → Type 0
Shows c b = (ls : List Literal) × (finished (Some c) ≡ Literals ls) × Stands ls b

-- parts that some values make false are no tautology, so each of their literals stands in the clause
pub not_tautology : (w : Atom → Bool) (ps : List Part) (l : Literal) → is_true w ps ≡ false → In (literals ps) l → Shows ps l.atom
not_tautology w ps l f h = cases (is_tautology ps) refl
  where
    cases : (b : Bool) → is_tautology ps ≡ b → (ls : List Literal) × (cond (is_tautology ps) Tautology (Literals (distinct (literals ps))) ≡ Literals ls) × Stands ls l.atom
    cases true e = absurd (no_false (is_true w ps) (tautology_value w ps (rw e refl)) f)
    cases false e = (distinct (literals ps), rw e refl, stands_in (distinct (literals ps)) l (literals_kept (literals ps) l h))

-- two literals of different atoms, both false
abbrev pub against : Atom → Bool → Bool → Atom → Bool
against a p q x = cond (same_atom x a) (not p) (not q)

pub two_false : (a b : Atom) (p q : Bool) → same_atom b a ≡ false → is_true (against a p q) (literal a p ∷ literal b q ∷ []) ≡ false
two_false a b p q e = rw (atom_itself a, e) (at p q)
  where
    at : (p q : Bool) → (signed p (not p) || (signed q (not q) || false)) ≡ false
    at true true = refl
    at true false = refl
    at false true = refl
    at false false = refl

module _ (fix : Atom → Fixing) (order : IsOrdered fix) where
  apart_from : (a : Atom) → IsFounded fix a → (l : Literal) → In (literals (lower (fix a))) l → ¬ (l.atom ≡ a)
  apart_from a (founded below) l h e = apart_from l.atom (below l h) l (subst (λ x. In (literals (lower (fix x))) l) (sym e) h) refl

  apart_of : (a : Atom) (l : Literal) → In (literals (lower (fix a))) l → same_atom l.atom a ≡ false
  apart_of a l h = go (same_atom l.atom a) refl
    where
      go : (b : Bool) → same_atom l.atom a ≡ b → b ≡ false
      go true e = absurd (apart_from a (order.well a) l h (atom_is l.atom a e))
      go false e = refl

literal_at : (ps : List Part) (l : Literal) → In (literals ps) l → (k : ℕ) × (slice_get ps k ≡ Some (Lit l))
literal_at [] l h = absurd h
literal_at (Fixed b ∷ ps) l h = let r = literal_at ps l h in (suc r.0, r.1)
literal_at (Lit m ∷ ps) l (inl e) = (0, ap (λ x. Some (Lit x)) e)
literal_at (Lit m ∷ ps) l (inr h) = let r = literal_at ps l h in (suc r.0, r.1)

-- some clause of the atom shows the other atom
abbrev pub ShownBy : Atom → Fixing → Atom → Type 0
ShownBy a f b = (k : ℕ) × (k < places f) × (c : List Part) × (clause_at a f k ≡ Some c) × Shows c b

part_shown : (a : Atom) (every : Bool) (ps : List Part) (l : Literal) → same_atom l.atom a ≡ false → In (literals ps) l
    → (k : ℕ) × (k < suc (length ps)) × (c : List Part) × (place_clause a every ps k ≡ Some c) × Shows c l.atom
part_shown a true ps l e h =
    let r = literal_at ps l h in
    let lt = slice_get_within ps r.0 (Lit l) r.1 in
    let ne : nat_eq r.0 (length ps) ≡ false = grind (arith, lt) in
    let f = not_tautology (against a false l.positive) (literal a false ∷ Lit l ∷ []) l (two_false a l.atom false l.positive e) (inr (inl refl)) in
    (r.0, omega (arith, lt), literal a false ∷ Lit l ∷ [], rw (ne, r.1) refl, f)
part_shown a false ps l e h =
    let r = literal_at ps l h in
    let lt = slice_get_within ps r.0 (Lit l) r.1 in
    let ne : nat_eq r.0 (length ps) ≡ false = grind (arith, lt) in
    let f = not_tautology (against a true (not l.positive)) (literal a true ∷ Lit (opposite l) ∷ []) (opposite l) (two_false a l.atom true (not l.positive) e) (inr (inl refl)) in
    (r.0, omega (arith, lt), literal a true ∷ Lit (opposite l) ∷ [], rw (ne, r.1) refl, f)

-- Counters.
pub counted_own : (i x j m : ℕ) → 1 ≤ m → m ≤ j → counted i x j m ≡ literal (Count i x j m) true
counted_own i x j m least most =
    let a : nat_eq m 0 ≡ false = grind (arith, least) in
    let b : nat_lt j m ≡ false = grind (arith, most) in
    rw (a, b) refl

split_first : (p : Part) (ps : List Part) (l : Literal) → In (literals (p ∷ ps)) l → (p ≡ Lit l) ⊎ In (literals ps) l
split_first (Fixed b) ps l h = inr h
split_first (Lit m) ps l (inl e) = inl (ap (λ x. Lit x) e)
split_first (Lit m) ps l (inr h) = inr h

first_in : (p : Part) (ps : List Part) (l : Literal) → p ≡ Lit l → In (literals (p ∷ ps)) l
first_in p ps l e = subst (λ q. In (literals (q ∷ ps)) l) (sym e) (inl refl)

rest_in : (p : Part) (ps : List Part) (l : Literal) → In (literals ps) l → In (literals (p ∷ ps)) l
rest_in (Fixed b) ps l h = h
rest_in (Lit m) ps l h = inr h

-- a lower counter is a positive literal where it is one
counted_positive : (i x j m : ℕ) (l : Literal) → counted i x j m ≡ Lit l → IsTrue l.positive
counted_positive i x j m l e = cases (nat_eq m 0) (nat_lt j m) e
  where
    cases : (a b : Bool) → cond a (Fixed true) (cond b (Fixed false) (literal (Count i x j m) true)) ≡ Lit l → IsTrue l.positive
    cases true b e = absurd (cc)
    cases false true e = absurd (cc)
    cases false false e = let g : true ≡ l.positive = cc in sym g

-- it is false where only the counter itself is true
counted_false : (a : Atom) (i x j m : ℕ) → 1 ≤ m → ((l : Literal) → counted i x j m ≡ Lit l → same_atom l.atom a ≡ false) → part_value (λ y. same_atom y a) (counted i x j m) ≡ false
counted_false a i x j m least apart = cases (nat_eq m 0) (nat_lt j m) refl apart
  where
    cases : (b c : Bool) → nat_eq m 0 ≡ b → ((l : Literal) → cond b (Fixed true) (cond c (Fixed false) (literal (Count i x j m) true)) ≡ Lit l → same_atom l.atom a ≡ false)
        → part_value (λ y. same_atom y a) (cond b (Fixed true) (cond c (Fixed false) (literal (Count i x j m) true))) ≡ false
    cases true c e f = absurd (grind (arith, e, least))
    cases false true e f = refl
    cases false false e f = f (record { atom = Count i x j m; positive = true }) refl

third_shown : (i x j m : ℕ) (second third : Part) (l : Literal) → 1 ≤ m → m ≤ j → third ≡ Lit l → IsTrue l.positive → same_atom l.atom (Count i x j m) ≡ false → part_value (λ y. same_atom y (Count i x j m)) second ≡ false
    → Shows (negation (counted i x j m) ∷ second ∷ third ∷ []) l.atom
third_shown i x j m second third l least most e pos apart low =
    let f = not_tautology (λ y. same_atom y (Count i x j m)) (literal (Count i x j m) false ∷ second ∷ third ∷ []) l
    (rw (atom_itself (Count i x j m), low, e, pos, apart) refl) (rest_in (literal (Count i x j m) false) (second ∷ third ∷ []) l (rest_in second (third ∷ []) l (first_in third [] l e))) in
    (f.0, ap (λ p. finished (Some (negation p ∷ second ∷ third ∷ []))) (counted_own i x j m least most) ∙ f.1, f.2)

first_shown : (i x j m : ℕ) (p : Part) (l : Literal) → 1 ≤ m → m ≤ j → p ≡ Lit l → IsTrue l.positive → same_atom l.atom (Count i x j m) ≡ false → Shows (counted i x j m ∷ negation p ∷ []) l.atom
first_shown i x j m p l least most e pos apart =
    let f = not_tautology (against (Count i x j m) true (not l.positive)) (literal (Count i x j m) true ∷ Lit (opposite l) ∷ []) (opposite l) (two_false (Count i x j m) l.atom true (not l.positive) apart) (inr (inl refl)) in
    (f.0, (λ t. finished (Some (counted_own i x j m least most t ∷ negation (e t) ∷ []))) ∙ f.1, f.2)

count_shown : (i x j m : ℕ) (item : Part) (l : Literal) → 1 ≤ m → m ≤ j → IsPositive item
    → ((n : Literal) → In (literals (lower (ByCount i x j m item))) n → same_atom n.atom (Count i x j m) ≡ false) → In (literals (lower (ByCount i x j m item))) l
    → ShownBy (Count i x j m) (ByCount i x j m item) l.atom
count_shown i x j m item l least most pos apart h = first (split_first A (B ∷ item ∷ []) l h)
  where
    A : Part
    A = counted i x (j - 1) m

    B : Part
    B = counted i x (j - 1) (m - 1)

    low : part_value (λ y. same_atom y (Count i x j m)) A ≡ false
    low = counted_false (Count i x j m) i x (j - 1) m least (λ n e. apart n (first_in A (B ∷ item ∷ []) n e))

    item_positive : (p : Part) → IsPositive p → p ≡ Lit l → IsTrue l.positive
    item_positive p pos e = subst IsPositive e pos

    third : (item ≡ Lit l) ⊎ In (literals []) l → ShownBy (Count i x j m) (ByCount i x j m item) l.atom
    third (inl e) = (3, omega arith, negation (counted i x j m) ∷ A ∷ item ∷ [], refl, third_shown i x j m A item l least most e (item_positive item pos e) (apart l h) low)
    third (inr g) = absurd g

    second : (B ≡ Lit l) ⊎ In (literals (item ∷ [])) l → ShownBy (Count i x j m) (ByCount i x j m item) l.atom
    second (inl e) = (2, omega arith, negation (counted i x j m) ∷ A ∷ B ∷ [], refl, third_shown i x j m A B l least most e (counted_positive i x (j - 1) (m - 1) l e) (apart l h) low)
    second (inr g) = third (split_first item [] l g)

    first : (A ≡ Lit l) ⊎ In (literals (B ∷ item ∷ [])) l → ShownBy (Count i x j m) (ByCount i x j m item) l.atom
    first (inl e) = (0, omega arith, counted i x j m ∷ negation A ∷ [], refl, first_shown i x j m A l least most e (counted_positive i x (j - 1) m l e) (apart l h))
    first (inr g) = second (split_first B (item ∷ []) l g)

module _ (fix : Atom → Fixing) (order : IsOrdered fix) where
  -- each atom below it stands in a clause of the atom
  pub lower_shown : (a : Atom) (l : Literal) → In (literals (lower (fix a))) l → ShownBy a (fix a) l.atom
  lower_shown a l h = go (fix a) refl h (order.own a)
    where
      go : (f : Fixing) → fix a ≡ f → In (literals (lower f)) l → IsOfAtom a f → ShownBy a f l.atom
      go NoAtom e g k = absurd g
      go Free e g k = absurd g
      go (ByParts ps) e g k = part_shown a ps.every ps.list l (apart_of fix order a l h) g
      go (ByCount i x j m item) e g k =
          let apart : (n : Literal) → In (literals (lower (ByCount i x j m item))) n → same_atom n.atom (Count i x j m) ≡ false = λ n f. subst (λ b. same_atom n.atom b ≡ false) k.0 (apart_of fix order a n (subst (λ y. In (literals (lower y)) n) (sym e) f)) in
          subst (λ b. ShownBy b (ByCount i x j m item) l.atom) (sym k.0) (count_shown i x j m item l k.1 k.2 k.3 apart g)
