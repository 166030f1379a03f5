-- How a clause stands under a set of literals. Private functions cite it.
use Rattle.std.specs.Prelude.{◌≡◌, ◌≢◌, ◌⊎◌, true, false, ◌||◌, List}
use Rattle.clause_store.specs.declared.lit.Lit.{Lit}
use Rattle.clause_store.specs.Clauses.{has, opposite, lit_eq}
use Rattle.clause_store.specs.Chained.{LitSet}
use Rattle.sat_core.specs.declared.scanning.Scan.{Scan}
use Rattle.sat_core.specs.declared.scanning.Scan.TheVariants.{Other, False, Unit as OneLeft}

-- every literal of the clause is false under a
abbrev pub IsFalseUnder : LitSet → LitSet → Type 0
IsFalseUnder a c = (m : Lit) → c m ≡ true → a (opposite m) ≡ true

-- the set with one literal more
abbrev pub and_lit : LitSet → Lit → LitSet
and_lit p l m = p m || lit_eq l m

-- all literals but l are false, and l is unassigned
pub record IsUnitUnder (a c : LitSet) (l : Lit) : Type 0 where
  pub here : c l ≡ true
  pub open_so : a l ≡ false
  pub open_not : a (opposite l) ≡ false
  pub others : (m : Lit) → c m ≡ true → m ≢ l → a (opposite m) ≡ true

-- every literal of the clause is true or false
abbrev pub AreAssigned : LitSet → LitSet → Type 0
AreAssigned a c = (m : Lit) → c m ≡ true → (a m ≡ true) ⊎ (a (opposite m) ≡ true)

abbrev pub IsNeither : LitSet → LitSet → Type 0
IsNeither a c = ¬ (IsFalseUnder a c) × ((l : Lit) → ¬ (IsUnitUnder a c l))

abbrev pub IsScan : LitSet → List Lit → Scan → Type 0
IsScan a c Other = IsNeither a (has c)
IsScan a c False = IsFalseUnder a (has c)
IsScan a c (OneLeft l) = IsUnitUnder a (has c) l
