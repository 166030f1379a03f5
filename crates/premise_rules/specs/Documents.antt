-- When a proof shows what it claims, and two properties of its steps. The lines of rules and steps are numbered from 0,
-- and each has a clause.
use Rattle.std.specs.Prelude.{◌≡◌, ◌<◌, ◌⊎◌, ℕ, suc, List, [], ◌∷◌, ◌++◌, length, filter, Bool, true, false, Some}
use Rattle.std.specs.Prelude.{slice_get, Contains}
use Rattle.rdf_terms.specs.Graph.{Graph}
use Rattle.shapes_graph.specs.Conformance.{Conforms}
use Rattle.repair_problem.specs.declared.atom.Literal.{Literal}
use Rattle.repair_problem.specs.Repair.{Within}
use Rattle.repair_problem.specs.Setting.{Setting}
use Rattle.repair_problem.specs.Candidates.{additions, deletions}
use Rattle.repair_problem.specs.Changes.{ChangeExplains, ChangeBelow}
use Rattle.proof_lines.specs.declared.proof.Claim.{Claim}
use Rattle.proof_lines.specs.declared.proof.Claim.TheVariants as claim
use Rattle.proof_lines.specs.declared.proof.ProofLine.{ProofLine}
use Rattle.proof_lines.specs.declared.proof.ProofLine.TheVariants as line
use Rattle.proof_lines.specs.declared.proof.Proof.{Proof}
use Rattle.count_encode.specs.PartTruth.{opposite}
use Rattle.premise_rules.specs.declared.clause.Clause.TheVariants.{Literals}
use Rattle.premise_rules.specs.RuleClauses.{rule_clause}
use Rattle.premise_rules.specs.Chains.{IsChained}

-- what stands above a line: the pairs of the chain, and the clauses of the numbered lines
pub record Lines : Type 0 where
  pub chain : List (List ℕ)
  pub clauses : List (List Literal)

abbrev pub no_lines : Lines
no_lines = record { chain = []; clauses = [] }

abbrev pub with_pair : Lines → List ℕ → Lines
with_pair above pair = record { chain = above.chain ++ pair ∷ []; clauses = above.clauses }

abbrev pub with_clause : Lines → List Literal → Lines
with_clause above c = record { chain = above.chain; clauses = above.clauses ++ c ∷ [] }

-- the last pair of a chain
abbrev pub IsLast : List (List ℕ) → List ℕ → Type 0
IsLast [] pair = ⊥
IsLast (p ∷ []) pair = p ≡ pair
IsLast (p ∷ q ∷ rest) pair = IsLast (q ∷ rest) pair

-- the pair explains and is below the one before it, if there is one
pub record IsNextPair (s : Setting) (chain : List (List ℕ)) (pair : List ℕ) : Type 0 where
  pub below : (before : List ℕ) → IsLast chain before → ChangeBelow pair before
  pub explains : ChangeExplains (Conforms s.shapes) s pair

-- Step: what is asked of the clause of a step, by the clauses above it
module _ (s : Setting) (Step : List (List Literal) → List Literal → Type 0) where
  -- each line can stand there, and behind all of them stands what the last says
  abbrev pub Leads : Lines → List ProofLine → Lines → Type 0
  Leads above [] below = above ≡ below
  Leads above (line.Chain pair ∷ rest) below =
      IsNextPair s above.chain pair × Leads (with_pair above pair) rest below
  Leads above (line.Rule rule ∷ rest) below =
      (ls : List Literal) × (rule_clause s above.chain rule.name rule.numbers ≡ Literals ls)
      × Leads (with_clause above ls) rest below
  Leads above (line.Step ids ∷ rest) below =
      (c : List Literal) × IsChained above.clauses ids c × Step above.clauses c × Leads (with_clause above c) rest below

abbrev pub AnyStep : List (List Literal) → List Literal → Type 0
AnyStep clauses c = Unit {0}

-- the last clause is empty
abbrev pub IsRefuted : Lines → Type 0
IsRefuted end = (clauses : List (List Literal)) × (end.clauses ≡ clauses ++ [] ∷ [])

-- a pair of candidates is that of these additions and deletions
pub record IsClaimed (s : Setting) (adds deletes : Graph) (chain : List (List ℕ)) : Type 0 where
  pub pair : List ℕ
  pub last : IsLast chain pair
  pub added : additions s pair ≡ adds
  pub deleted : deletions s pair ≡ deletes

-- what the lines have to lead to: for a pair, that the last pair of the chain is the claimed one, and for a pair and
-- for none that the clauses are refuted
abbrev pub Shows : Setting → Graph → Graph → Claim → Lines → Type 0
Shows s adds deletes claim.Pair end =
    Within adds s.offers × Within deletes s.present × IsClaimed s adds deletes end.chain × IsRefuted end
Shows s adds deletes claim.NoPair end = (end.chain ≡ []) × IsRefuted end
Shows s adds deletes claim.Spent end = Unit {0}

-- the proof shows what it claims; adds and deletes: of the claimed pair
pub record IsAccepted (s : Setting) (adds deletes : Graph) (proof : Proof) : Type 0 where
  pub end : Lines
  pub leads : Leads s AnyStep no_lines proof.lines end
  pub shows : Shows s adds deletes proof.claim end

-- Partial assignments: lists of the literals that are true.

-- no atom stands there twice
abbrev pub IsAssignment : List Literal → Type 0
IsAssignment ls =
    (i j : ℕ) (l m : Literal) → slice_get ls i ≡ Some l → slice_get ls j ≡ Some m → l.atom ≡ m.atom → i ≡ j

-- all literals of the clause are false
abbrev pub IsFalse : List Literal → List Literal → Type 0
IsFalse trail c = (l : Literal) → Contains c l → Contains trail (opposite l)

-- the literal of the clause is neither true nor false, and all others are false
pub record IsUnit (trail c : List Literal) (l : Literal) : Type 0 where
  pub own : Contains c l
  pub not_true : ¬ (Contains trail l)
  pub not_false : ¬ (Contains trail (opposite l))
  pub others : (m : Literal) → Contains c m → (m ≡ l) ⊎ Contains trail (opposite m)

-- unit propagation over the clauses doesn't give it already (after Atserias, Fichte and Thurley, Clause-Learning
-- Algorithms with Many Restarts and Bounded-Width Resolution, JAIR 2011: the clause is not absorbed)
pub record IsFreshStep (clauses : List (List Literal)) (c : List Literal) : Type 0 where
  pub trail : List Literal
  pub assigned : IsAssignment trail
  pub left : Literal
  pub one_left : IsUnit trail c left
  pub none_false : (d : List Literal) → Contains clauses d → ¬ (IsFalse trail d)
  pub none_unit : (d : List Literal) (l : Literal) → Contains clauses d → ¬ (IsUnit trail d l)

-- each line can stand there, and each step is fresh
pub record IsFresh (s : Setting) (proof : Proof) : Type 0 where
  pub end : Lines
  pub leads : Leads s IsFreshStep no_lines proof.lines end

abbrev pub is_numbered : ProofLine → Bool
is_numbered (line.Chain pair) = false
is_numbered (line.Rule rule) = true
is_numbered (line.Step ids) = true

-- the ids of a step, and none of another line
abbrev pub cited : ProofLine → List ℕ
cited (line.Step ids) = ids
cited _ = []

-- each numbered line but the last is cited by a step below it
abbrev pub IsTrimmed : Proof → Type 0
IsTrimmed proof =
    (n : ℕ) → suc n < length (filter is_numbered proof.lines)
    → (k : ℕ) × (below : ProofLine) × (n < k) × (slice_get (filter is_numbered proof.lines) k ≡ Some below)
    × Contains (cited below) n
