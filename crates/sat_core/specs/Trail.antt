-- The trail of a solver. Its invariant and private functions alone cite it.
use Rattle.std.specs.Prelude.{◌≡◌, ◌↔◌, ℕ, ◌+◌, ◌<◌, false, IsTrue, nat_eq, List, [], length, take}
use Rattle.std.specs.Prelude.{Option, Some, None, slice_get}
use Rattle.std.specs.List.{list_any}
use Rattle.clause_store.specs.declared.lit.Lit.{Lit}
use Rattle.clause_store.specs.Clauses.{mentions}
use Rattle.sat_core.specs.declared.trail.Entry.{Entry}
use Rattle.sat_core.specs.Assignments.{IsUnit, IsAtRest}
use Rattle.sat_core.specs.Solving.{Solving, IsLog, is_known, lits_of}

-- the entry's reason makes it true under those before
abbrev pub IsImplied : List (List Lit) → List Lit → Lit → Option ℕ → Type 0
IsImplied cs p l None = Unit {0}
IsImplied cs p l (Some i) = (c : List Lit) × (slice_get cs i ≡ Some c) × IsUnit p c l

pub record IsTrail (cs : List (List Lit)) (t : List Entry) (starts : List ℕ) : Type 0 where
  pub free : (k : ℕ) (e : Entry) → slice_get t k ≡ Some e → mentions (lits_of (take k t)) e.lit.var ≡ false
  pub known : (k : ℕ) (e : Entry) → slice_get t k ≡ Some e → IsTrue (is_known cs e.lit.var)
  pub implied : (k : ℕ) (e : Entry) → slice_get t k ≡ Some e → IsImplied cs (lits_of (take k t)) e.lit e.reason
  -- a level starts with a decision, and no other entry is one
  pub decided : (k : ℕ) (e : Entry) → slice_get t k ≡ Some e → (e.reason ≡ None) ↔ IsTrue (list_any (nat_eq k) starts)
  pub within : (j k : ℕ) → slice_get starts j ≡ Some k → k < length t
  pub rising : (i j m n : ℕ) → i < j → slice_get starts i ≡ Some m → slice_get starts j ≡ Some n → m < n
  -- before each decision the trail is at rest
  pub rest : (j k : ℕ) → slice_get starts j ≡ Some k → IsAtRest (lits_of (take k t)) cs

pub record IsSolving (s : Solving) : Type 0 where
  pub trail : IsTrail s.clauses s.trail s.starts
  pub log : IsLog s.clauses s.log
  -- an empty clause is the last
  pub empty_last : (i : ℕ) → slice_get s.clauses i ≡ Some [] → i + 1 ≡ length s.clauses
