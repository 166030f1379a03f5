-- What a pass over the clauses and one conflict more say. Private functions cite it.
use Rattle.std.specs.Prelude.{◌≡◌, ◌≢◌, ◌↔◌, ◌++◌, ℕ, ◌<◌, ◌≤◌, Bool, true, false, List, [], ◌∷◌, length, Some}
use Rattle.std.specs.Prelude.{slice_get}
use Rattle.clause_store.specs.declared.lit.Lit.{Lit}
use Rattle.clause_store.specs.Clauses.{has}
use Rattle.clause_store.specs.Chained.{IsChained}
use Rattle.sat_core.specs.Assignments.{IsAtRest, IsFresh, IsUnit, is_false}
use Rattle.sat_core.specs.Scanned.{AreAssigned}
use Rattle.sat_core.specs.Solving.{Solving, IsFalseAt, assigned}
use Rattle.sat_core.specs.declared.propagation.Pass.{Pass}
use Rattle.sat_core.specs.declared.propagation.Pass.TheVariants.{False, Changed, Rest}

abbrev pub IsPassed : Solving → Solving → Pass → Type 0
IsPassed old new (False i) = IsFalseAt new i
IsPassed old new Changed = (length old.trail < length new.trail) × (length new.trail ≤ new.room)
IsPassed old new Rest = IsAtRest (assigned new) new.clauses

-- of the clauses before that place none is false, and none has one unassigned literal and all others false
pub record IsAtRestUpTo (p : List Lit) (cs : List (List Lit)) (n : ℕ) : Type 0 where
  pub none_false : (i : ℕ) (c : List Lit) → i < n → slice_get cs i ≡ Some c → is_false p c ≡ false
  pub none_unit : (i : ℕ) (c : List Lit) → i < n → slice_get cs i ≡ Some c → (l : Lit) → ¬ (IsUnit p c l)

abbrev pub AreAllAssigned : Solving → Type 0
AreAllAssigned s =
    (i : ℕ) (c : List Lit) → slice_get s.clauses i ≡ Some c → AreAssigned (has (assigned s)) (has c)

-- one clause more, and the step that gives it; it says whether the clause is empty
pub record HasOneMore (old new : Solving) (is_empty : Bool) : Type 0 where
  pub clause : List Lit
  pub ids : List ℕ
  pub clauses : new.clauses ≡ old.clauses ++ clause ∷ []
  pub log : new.log ≡ old.log ++ record { place = length old.clauses; ids = ids } ∷ []
  pub chained : IsChained old.clauses ids clause
  pub fresh : (clause ≢ []) → IsFresh old.clauses clause
  pub empty : (is_empty ≡ true) ↔ (clause ≡ [])
