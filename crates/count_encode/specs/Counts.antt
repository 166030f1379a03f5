-- Counters: at least m of the first j items are true. A counter is fixed by two over one item less, and by the item
-- (after Sinz, Towards an Optimal CNF Encoding of Boolean Cardinality Constraints, CP 2005).
use Rattle.std.specs.Prelude.{◌≡◌, ℕ, zero, suc, ◌+◌, ◌-◌, ◌≤◌, Bool, true, false, nat_eq, nat_lt, nat_le, IsTrue}
use Rattle.std.specs.Prelude.{List, [], ◌∷◌, length, take, Some, slice_get, if◌then◌else◌}
use Rattle.repair_problem.specs.declared.atom.Atom.{Atom}
use Rattle.repair_problem.specs.declared.atom.Atom.TheVariants.{Count}
use Rattle.repair_problem.specs.declared.atom.Part.{Part}
use Rattle.repair_problem.specs.declared.atom.Part.TheVariants.{Fixed, Lit}
use Rattle.count_encode.specs.PartTruth.{part_value, negation, is_true}

-- a counter as a part: at least none are always true, and of j items never more than j
abbrev pub counted : ℕ → ℕ → ℕ → ℕ → Part
counted i x j m =
    if nat_eq m 0 then Fixed true
    else (if nat_lt j m then Fixed false else Lit (record { atom = Count i x j m; positive = true }))

-- the clause at each place: so many of one item less are enough; one fewer and the item are; and without both, or
-- without so many and the item, there are not so many
abbrev pub count_parts : ℕ → ℕ → ℕ → ℕ → Part → ℕ → List Part
count_parts i x j m item zero = counted i x j m ∷ negation (counted i x (j - 1) m) ∷ []
count_parts i x j m item (suc zero) =
    counted i x j m ∷ negation (counted i x (j - 1) (m - 1)) ∷ negation item ∷ []
count_parts i x j m item (suc (suc zero)) =
    negation (counted i x j m) ∷ counted i x (j - 1) m ∷ counted i x (j - 1) (m - 1) ∷ []
count_parts i x j m item (suc (suc (suc place))) =
    negation (counted i x j m) ∷ counted i x (j - 1) m ∷ item ∷ []

-- how many are true
abbrev pub trues : List Bool → ℕ
trues [] = 0
trues (true ∷ bs) = trues bs + 1
trues (false ∷ bs) = trues bs

-- whether at least m of the first j are true
abbrev pub at_least : List Bool → ℕ → ℕ → Bool
at_least values j m = nat_le m (trues (take j values))

-- each counter of constraint i for x tells whether so many of these values are true
abbrev pub Counting : (Atom → Bool) → ℕ → ℕ → List Bool → Type 0
Counting a i x values =
    (j m : ℕ) → 1 ≤ m → m ≤ j → j ≤ length values → a (Count i x j m) ≡ at_least values j m

-- the two lower counters tell it, the item is the j-th, and the four clauses are true
pub record AreFixed (a : Atom → Bool) (i x j m : ℕ) (item : Part) (values : List Bool) : Type 0 where
  pub here : slice_get values (j - 1) ≡ Some (part_value a item)
  pub same : part_value a (counted i x (j - 1) m) ≡ at_least values (j - 1) m
  pub less : part_value a (counted i x (j - 1) (m - 1)) ≡ at_least values (j - 1) (m - 1)
  pub clauses : (place : ℕ) → place ≤ 3 → IsTrue (is_true a (count_parts i x j m item place))

-- so this counter tells it
abbrev pub Fix : (Atom → Bool) → ℕ → ℕ → ℕ → ℕ → Part → List Bool → Type 0
Fix a i x j m item values = AreFixed a i x j m item values → a (Count i x j m) ≡ at_least values j m
