-- Chains of resolutions (Robinson, A Machine-Oriented Logic Based on the Resolution Principle, 1965), over clauses
-- read as sets of literals.
use Rattle.std.specs.Prelude.{◌≡◌, ℕ, ◌≤◌, Bool, true, false, not, ◌&&◌, ◌||◌, nat_eq, List, [], ◌∷◌, length, Some}
use Rattle.std.specs.Prelude.{slice_get}
use Rattle.clause_store.specs.declared.lit.Lit.{Lit}
use Rattle.clause_store.specs.Clauses.{has, opposite}

-- a set of literals, by the test that says which of them stand in it
abbrev pub LitSet : Type 0
LitSet = Lit → Bool

abbrev pub empty_set : LitSet
empty_set l = false

abbrev pub union : LitSet → LitSet → LitSet
union a b l = a l || b l

-- the set without the literals of a variable
abbrev pub without : LitSet → ℕ → LitSet
without a v l = a l && not (nat_eq l.var v)

-- the literal stands in the second set, and its opposite in the first
abbrev pub Clashes : LitSet → LitSet → Lit → Type 0
Clashes a b l = (a (opposite l) ≡ true) × (b l ≡ true)

-- the variable has opposite signs in the two sets, and no other has
abbrev pub ClashesOnce : LitSet → LitSet → ℕ → Type 0
ClashesOnce a b v = ((l : Lit) × (l.var ≡ v) × Clashes a b l) × ((m : Lit) → Clashes a b m → m.var ≡ v)

-- from the first set comes the last, by a resolution with the clause of each id in order
abbrev pub ResolvesTo : List (List Lit) → LitSet → List ℕ → LitSet → Type 0
ResolvesTo cs a [] c = a ≡ c
ResolvesTo cs a (i ∷ ids) c =
    (b : List Lit) × (v : ℕ) × (slice_get cs i ≡ Some b) × ClashesOnce a (has b) v
    × ResolvesTo cs (without (union a (has b)) v) ids c

-- the same, beginning with the clause of the first id; of no id, nothing is said
abbrev pub Derives : List (List Lit) → List ℕ → LitSet → Type 0
Derives cs [] c = Unit {0}
Derives cs (i ∷ ids) c = (a : List Lit) × (slice_get cs i ≡ Some a) × ResolvesTo cs (has a) ids c

-- of two ids or more, each a place in the list of clauses, the last resolvent is this clause
abbrev pub IsChained : List (List Lit) → List ℕ → List Lit → Type 0
IsChained cs ids c = (2 ≤ length ids) × Derives cs ids (has c)
