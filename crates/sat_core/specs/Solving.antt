-- A solver as contracts see it, and what its calls do.
use Rattle.std.specs.Prelude.{◌≡◌, ◌≢◌, ◌++◌, ℕ, ◌-◌, ◌<◌, ◌≤◌, Bool, true, IsTrue, List, [], ◌∷◌, map, length, take}
use Rattle.std.specs.Prelude.{Some, slice_get}
use Rattle.std.specs.List.{list_any}
use Rattle.clause_store.specs.declared.lit.Lit.{Lit}
use Rattle.clause_store.specs.Clauses.{has, is_clause, mentions}
use Rattle.clause_store.specs.Chained.{IsChained}
use Rattle.sat_core.specs.declared.outcome.Outcome.{Outcome}
use Rattle.sat_core.specs.declared.outcome.Outcome.TheVariants.{Model, Refuted, Spent}
use Rattle.sat_core.specs.declared.trail.Entry.{Entry}
use Rattle.sat_core.specs.declared.trail.LogStep.{LogStep}
use Rattle.sat_core.specs.Assignments.{IsFresh, is_false}

pub record Solving : Type 0 where
  pub clauses : List (List Lit)
  -- the literals that are true, in the order in which they became so
  pub trail : List Entry
  -- of each level, how many entries stand below it
  pub starts : List ℕ
  pub log : List LogStep
  -- how many variables there is room for
  pub room : ℕ

abbrev pub lits_of : List Entry → List Lit
lits_of = map (λ e. e.lit)

abbrev pub assigned : Solving → List Lit
assigned s = lits_of s.trail

-- the variable stands in a clause
abbrev pub is_known : List (List Lit) → ℕ → Bool
is_known cs v = list_any (λ c. mentions c v) cs

abbrev pub HasEmpty : List (List Lit) → Type 0
HasEmpty cs = (i : ℕ) × (slice_get cs i ≡ Some [])

-- the clause at the place is false under the trail
abbrev pub IsFalseAt : Solving → ℕ → Type 0
IsFalseAt s i = (c : List Lit) × (slice_get s.clauses i ≡ Some c) × IsTrue (is_false (assigned s) c)

-- each clause has a literal that is true
abbrev pub HasModel : Solving → Type 0
HasModel s =
    (i : ℕ) (c : List Lit) → slice_get s.clauses i ≡ Some c
    → (l : Lit) × (has c l ≡ true) × (has (assigned s) l ≡ true)

-- each clause has a literal that is true, each variable of a clause is assigned, and none twice
pub record IsModel (s : Solving) : Type 0 where
  pub all_true : HasModel s
  pub all_known : (v : ℕ) → IsTrue (is_known s.clauses v) → IsTrue (mentions (assigned s) v)
  pub once : IsTrue (is_clause (assigned s))

-- a chain over the clauses before its place gives the step's clause, and the clause is fresh over these
pub record IsStep (cs : List (List Lit)) (s : LogStep) : Type 0 where
  pub clause : List Lit
  pub here : slice_get cs s.place ≡ Some clause
  pub chained : IsChained (take s.place cs) s.ids clause
  pub fresh : (clause ≢ []) → IsFresh (take s.place cs) clause

-- each entry is a step as above, and their places ascend
pub record IsLog (cs : List (List Lit)) (log : List LogStep) : Type 0 where
  pub steps : (k : ℕ) (s : LogStep) → slice_get log k ≡ Some s → IsStep cs s
  pub rising : (i j : ℕ) (s t : LogStep) → i < j → slice_get log i ≡ Some s → slice_get log j ≡ Some t
      → s.place < t.place

-- each step appends a clause, which its chain over all clauses before it gives, and which is fresh over these
abbrev pub AreLearned : List (List Lit) → List LogStep → List (List Lit) → Type 0
AreLearned cs [] ends = cs ≡ ends
AreLearned cs (s ∷ steps) ends =
    (c : List Lit) × (s.place ≡ length cs) × IsChained cs s.ids c × (c ≢ [] → IsFresh cs c)
    × AreLearned (cs ++ c ∷ []) steps ends

-- steps were added to the log, each with its clause, and no other clause
pub record Extends (old new : Solving) : Type 0 where
  pub steps : List LogStep
  pub log : new.log ≡ old.log ++ steps
  pub learned : AreLearned old.clauses steps new.clauses

-- the clauses and the log have grown at their ends
pub record IsFurther (old new : Solving) : Type 0 where
  pub clauses : take (length old.clauses) new.clauses ≡ old.clauses
  pub log : take (length old.log) new.log ≡ old.log

-- What an outcome says. Where the search is spent, the clause at some place is false besides.
abbrev pub Ends : ℕ → Solving → Outcome → Type 0
Ends budget s Model = IsModel s
Ends budget s Refuted = (slice_get s.clauses (length s.clauses - 1) ≡ Some []) × (0 < length s.clauses)
Ends budget s Spent = (length s.log ≡ budget) × ¬ (HasEmpty s.clauses) × (i : ℕ) × IsFalseAt s i

-- the trail has grown at its end, within the last level, and nothing else has changed
pub record HasGrown (old new : Solving) : Type 0 where
  pub clauses : new.clauses ≡ old.clauses
  pub log : new.log ≡ old.log
  pub starts : new.starts ≡ old.starts
  pub room : new.room ≡ old.room
  pub trail : take (length old.trail) new.trail ≡ old.trail
  pub longer : length old.trail ≤ length new.trail

-- all but the trail and its levels is as before
pub record KeepsAllButTrail (old new : Solving) : Type 0 where
  pub clauses : new.clauses ≡ old.clauses
  pub log : new.log ≡ old.log
  pub room : new.room ≡ old.room
