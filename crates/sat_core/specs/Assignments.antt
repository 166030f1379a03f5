-- Partial assignments, as lists of the literals that are true (after Atserias, Fichte and Thurley, Clause-Learning
-- Algorithms with Many Restarts and Bounded-Width Resolution, JAIR 2011).
use Rattle.std.specs.Prelude.{◌≡◌, ◌≢◌, ℕ, Bool, true, false, List, Some, slice_get}
use Rattle.std.specs.List.{list_all}
use Rattle.clause_store.specs.declared.lit.Lit.{Lit}
use Rattle.clause_store.specs.Clauses.{has, is_clause, mentions, opposite}

-- under the assignment p each literal of the clause is false
abbrev pub is_false : List Lit → List Lit → Bool
is_false p c = list_all (λ l. has p (opposite l)) c

-- the literal of the clause is unassigned, and all others are false
pub record IsUnit (p c : List Lit) (l : Lit) : Type 0 where
  pub here : has c l ≡ true
  pub free : mentions p l.var ≡ false
  pub others : (m : Lit) → has c m ≡ true → m ≢ l → has p (opposite m) ≡ true

-- no clause is false, and none has one unassigned literal and all others false
pub record IsAtRest (p : List Lit) (cs : List (List Lit)) : Type 0 where
  pub none_false : (i : ℕ) (c : List Lit) → slice_get cs i ≡ Some c → is_false p c ≡ false
  pub none_unit : (i : ℕ) (c : List Lit) → slice_get cs i ≡ Some c → (l : Lit) → ¬ (IsUnit p c l)

-- unit propagation over the clauses doesn't give the clause already: some assignment that is at rest leaves one of its
-- literals open, and makes all others false
pub record IsFresh (cs : List (List Lit)) (c : List Lit) : Type 0 where
  pub under : List Lit
  pub once : is_clause under ≡ true
  pub lit : Lit
  pub unit : IsUnit under c lit
  pub rest : IsAtRest under cs
