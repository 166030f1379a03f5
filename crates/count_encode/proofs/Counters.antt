-- The four clauses of a counter are true, and fix it.
use Rattle.std.proofs.Common.{◌≡◌, ℕ, zero, suc, ◌+◌, ◌-◌, ◌≤◌, ◌<◌, Bool, true, false, not, ◌||◌, nat_eq, nat_lt, nat_le, List, [], ◌∷◌, length, take, Some, slice_get, refl, sym, ap, ◌∙◌, arith}
use Rattle.std.proofs.lemmas.Grind.{common_steps}
use Rattle.std.proofs.lemmas.Option.{slice_get_within}
use Rattle.std.specs.Prelude.{Result, Ok, Err, IfOk}
use Rattle.repair_problem.specs.declared.atom.Atom.{Atom}
use Rattle.repair_problem.specs.declared.atom.Atom.TheVariants.{Count}
use Rattle.repair_problem.specs.declared.atom.Part.{Part}
use Rattle.repair_problem.specs.declared.atom.Part.TheVariants.{Fixed, Lit}
use Rattle.count_encode.specs.PartTruth.{signed, opposite, negation, literal_value, part_value, is_true}
use Rattle.count_encode.specs.Counts.{counted, count_parts, trues, at_least, Counting, Fix}

abbrev pub bit : Bool → ℕ
bit true = 1
bit false = 0

pub trues_next : (vs : List Bool) (k : ℕ) (b : Bool) → slice_get vs k ≡ Some b → trues (take (suc k) vs) ≡ trues (take k vs) + bit b
trues_next [] k b e = grind (arith, common_steps, e)
trues_next (true ∷ vs) zero true e = refl
trues_next (true ∷ vs) zero false e = grind (arith, common_steps, e)
trues_next (false ∷ vs) zero true e = grind (arith, common_steps, e)
trues_next (false ∷ vs) zero false e = refl
trues_next (true ∷ vs) (suc k) b e = let h = trues_next vs k b e in omega arith
trues_next (false ∷ vs) (suc k) b e = trues_next vs k b e

pub trues_bound : (vs : List Bool) (j : ℕ) → trues (take j vs) ≤ j
trues_bound [] zero = omega arith
trues_bound [] (suc j) = omega arith
trues_bound (v ∷ vs) zero = omega arith
trues_bound (true ∷ vs) (suc j) = let h = trues_bound vs j in omega arith
trues_bound (false ∷ vs) (suc j) = let h = trues_bound vs j in omega arith

signed_not : (p b : Bool) → signed (not p) b ≡ not (signed p b)
signed_not true b = refl
signed_not false true = refl
signed_not false false = refl

-- the negation of a part has the other truth value
pub negation_value : (a : Atom → Bool) (item : Part) → part_value a (negation item) ≡ not (part_value a item)
negation_value a (Fixed b) = refl
negation_value a (Lit l) = signed_not l.positive (a l.atom)

-- a counter as a part, where its truth is q
pub counted_as : (a : Atom → Bool) (i x j m : ℕ) (q : Bool) → (m ≡ 0 → q ≡ true) → (j < m → q ≡ false) → (1 ≤ m → m ≤ j → a (Count i x j m) ≡ q) → part_value a (counted i x j m) ≡ q
counted_as a i x j m q always never tells = cases (nat_eq m 0) (nat_lt j m) refl refl
  where
    cases : (e f : Bool) → nat_eq m 0 ≡ e → nat_lt j m ≡ f → part_value a (counted i x j m) ≡ q
    cases true f he hf = let all : q ≡ true = always (grind arith) in rw (he, all) refl
    cases false true he hf = let none : q ≡ false = never (grind arith) in rw (he, hf, none) refl
    cases false false he hf = rw (he, hf) (tells (grind arith) (grind arith))

-- where n of the first j items are true
pub counted_value : (a : Atom → Bool) (i x j m n : ℕ) → n ≤ j → (1 ≤ m → m ≤ j → a (Count i x j m) ≡ nat_le m n) → part_value a (counted i x j m) ≡ nat_le m n
counted_value a i x j m n within tells = counted_as a i x j m (nat_le m n) (λ e. grind arith) (λ h. grind arith) tells

place0 : (n m : ℕ) (b : Bool) → (nat_le m (n + bit b) || (not (nat_le m n) || false)) ≡ true
place0 n m true = grind arith
place0 n m false = grind arith

place1 : (n m : ℕ) (b : Bool) → 1 ≤ m → (nat_le m (n + bit b) || (not (nat_le (m - 1) n) || (not b || false))) ≡ true
place1 n m true h = grind arith
place1 n m false h = grind arith

place2 : (n m : ℕ) (b : Bool) → 1 ≤ m → (not (nat_le m (n + bit b)) || (nat_le m n || (nat_le (m - 1) n || false))) ≡ true
place2 n m true h = grind arith
place2 n m false h = grind arith

place3 : (n m : ℕ) (b : Bool) → (not (nat_le m (n + bit b)) || (nat_le m n || (b || false))) ≡ true
place3 n m true = grind arith
place3 n m false = grind arith

-- the other way round: a truth that makes all four clauses true is this one
fixed : (here : Bool) (n m : ℕ) (b : Bool) → 1 ≤ m → (here || (not (nat_le m n) || false)) ≡ true → (here || (not (nat_le (m - 1) n) || (not b || false))) ≡ true → (not here || (nat_le m n || (nat_le (m - 1) n || false))) ≡ true → (not here || (nat_le m n || (b || false))) ≡ true → here ≡ nat_le m (n + bit b)
fixed true n m true h p0 p1 p2 p3 = grind arith
fixed true n m false h p0 p1 p2 p3 = grind arith
fixed false n m true h p0 p1 p2 p3 = grind arith
fixed false n m false h p0 p1 p2 p3 = grind arith

at_next : (vs : List Bool) (j m : ℕ) (b : Bool) → 1 ≤ j → slice_get vs (j - 1) ≡ Some b → at_least vs j m ≡ nat_le m (trues (take (j - 1) vs) + bit b)
at_next vs j m b h e = let same : j ≡ suc (j - 1) = omega arith in ap (nat_le m) (ap (λ t. trues (take t vs)) same ∙ trues_next vs (j - 1) b e)

module _ (a : Atom → Bool) (i x : ℕ) (vs : List Bool) where
  lower : Counting a i x vs → (k m : ℕ) → k ≤ length vs → part_value a (counted i x k m) ≡ nat_le m (trues (take k vs))
  lower tells k m in_list = counted_value a i x k m (trues (take k vs)) (trues_bound vs k) (λ least most. tells k m least most in_list)

  pub clause_holds : (j m : ℕ) (item : Part) (place : ℕ) → 1 ≤ m → m ≤ j → Counting a i x vs → slice_get vs (j - 1) ≡ Some (part_value a item) → is_true a (count_parts i x j m item place) ≡ true
  clause_holds j m item place least most tells here = at place
    where
      up : j ≤ length vs
      up = let h = slice_get_within vs (j - 1) (part_value a item) here in omega arith

      down : j - 1 ≤ length vs
      down = let h = up in omega arith

      top : part_value a (counted i x j m) ≡ nat_le m (trues (take (j - 1) vs) + bit (part_value a item))
      top = lower tells j m up ∙ at_next vs j m (part_value a item) (omega arith) here

      not_top : part_value a (negation (counted i x j m)) ≡ not (nat_le m (trues (take (j - 1) vs) + bit (part_value a item)))
      not_top = negation_value a (counted i x j m) ∙ ap not top

      low : (m : ℕ) → part_value a (counted i x (j - 1) m) ≡ nat_le m (trues (take (j - 1) vs))
      low m = lower tells (j - 1) m down

      not_low : (m : ℕ) → part_value a (negation (counted i x (j - 1) m)) ≡ not (nat_le m (trues (take (j - 1) vs)))
      not_low m = negation_value a (counted i x (j - 1) m) ∙ ap not (low m)

      at : (place : ℕ) → is_true a (count_parts i x j m item place) ≡ true
      at zero = rw (top, not_low m) (place0 (trues (take (j - 1) vs)) m (part_value a item))
      at (suc zero) = rw (top, not_low (m - 1), negation_value a item) (place1 (trues (take (j - 1) vs)) m (part_value a item) least)
      at (suc (suc zero)) = rw (not_top, low m, low (m - 1)) (place2 (trues (take (j - 1) vs)) m (part_value a item) least)
      at (suc (suc (suc place))) = rw (not_top, low m) (place3 (trues (take (j - 1) vs)) m (part_value a item))

  pub clauses_fix : (j m : ℕ) (item : Part) → 1 ≤ m → m ≤ j → Fix a i x j m item vs
  clauses_fix j m item least most f =
      fixed here n m (part_value a item) least
      (rw (own, not_same) at (f.clauses 0 (omega arith)))
      (rw (own, not_less, negation_value a item) at (f.clauses 1 (omega arith)))
      (rw (not_own, f.same, f.less) at (f.clauses 2 (omega arith)))
      (rw (not_own, f.same) at (f.clauses 3 (omega arith)))
      ∙ sym (at_next vs j m (part_value a item) (omega arith) f.here)
    where
      here : Bool
      here = a (Count i x j m)

      n : ℕ
      n = trues (take (j - 1) vs)

      own : part_value a (counted i x j m) ≡ a (Count i x j m)
      own = counted_as a i x j m (a (Count i x j m)) (λ e. grind arith) (λ h. grind arith) (λ u v. refl)

      not_own : part_value a (negation (counted i x j m)) ≡ not (a (Count i x j m))
      not_own = negation_value a (counted i x j m) ∙ ap not own

      not_same : part_value a (negation (counted i x (j - 1) m)) ≡ not (at_least vs (j - 1) m)
      not_same = negation_value a (counted i x (j - 1) m) ∙ ap not f.same

      not_less : part_value a (negation (counted i x (j - 1) (m - 1))) ≡ not (at_least vs (j - 1) (m - 1))
      not_less = negation_value a (counted i x (j - 1) (m - 1)) ∙ ap not f.less

pub if_ok : {T E : Type 0} (P Q : T → Type 0) (r : Result T E) → ((v : T) → P v → Q v) → IfOk r P → IfOk r Q
if_ok P Q (Ok v) more h = more v h
if_ok P Q (Err e) more h = h
