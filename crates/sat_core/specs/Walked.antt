-- The walk back over a trail, which resolves a false clause with the reasons. Private functions cite it.
use Rattle.std.specs.Prelude.{◌≡◌, ℕ, ◌<◌, ◌≤◌, false, List, [], length, take, Some, slice_get}
use Rattle.clause_store.specs.declared.lit.Lit.{Lit}
use Rattle.clause_store.specs.Clauses.{has, mentions}
use Rattle.clause_store.specs.Chained.{LitSet, Derives}
use Rattle.sat_core.specs.declared.trail.Entry.{Entry}
use Rattle.sat_core.specs.Assignments.{IsAtRest}
use Rattle.sat_core.specs.Scanned.{IsFalseUnder, and_lit}
use Rattle.sat_core.specs.Solving.{lits_of}

-- the entries from that place on are done: the set is false under those before it, and under no start's
pub record IsWalking (cs : List (List Lit)) (t : List Entry) (starts : List ℕ) (at : ℕ) (ids : List ℕ)
    (cur : LitSet) : Type 0 where
  pub some : 0 < length ids
  pub begins : Derives cs ids cur
  pub all_false : IsFalseUnder (has (lits_of (take at t))) cur
  pub before : (j k : ℕ) → slice_get starts j ≡ Some k → k < at
  pub involved : (j k : ℕ) → slice_get starts j ≡ Some k → ¬ (IsFalseUnder (has (lits_of (take k t))) cur)

-- under the entries before some start, at rest, the set is false but for the opposite of one literal
pub record IsAsserting (cs : List (List Lit)) (t : List Entry) (at : ℕ) (cur : LitSet) : Type 0 where
  pub start : ℕ
  pub within : at ≤ start
  pub lit : Lit
  pub rest : IsAtRest (lits_of (take start t)) cs
  pub free : mentions (lits_of (take start t)) lit.var ≡ false
  pub with_lit : IsFalseUnder (and_lit (has (lits_of (take start t))) lit) cur
  pub involved : ¬ (IsFalseUnder (has (lits_of (take start t))) cur)

pub record IsWalked (cs : List (List Lit)) (t : List Entry) (starts : List ℕ) (ids : List ℕ) (at : ℕ)
    (cur : LitSet) : Type 0 where
  pub some : 0 < length ids
  pub begins : Derives cs ids cur
  pub at_zero : starts ≡ [] → (l : Lit) → cur l ≡ false
  pub above : 0 < length starts → IsAsserting cs t at cur
