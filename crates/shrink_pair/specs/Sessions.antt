-- What a session holds, and what is true of it between two searches. Private functions cite it.
use Rattle.std.specs.Prelude.{◌≡◌, ◌≢◌, ◌⊎◌, ℕ, zero, suc, ◌+◌, ◌<◌, ◌≤◌, Bool, true, false, not, IsTrue}
use Rattle.std.specs.Prelude.{List, [], ◌∷◌, ◌++◌, map, length, filter, Option, Some, None, slice_get, Contains}
use Rattle.clause_store.specs.declared.lit.Lit.{Lit}
use Rattle.clause_store.specs.Clauses.{has, opposite, mentions, is_clause, are_clauses, are_within}
use Rattle.sat_core.specs.declared.trail.LogStep.{LogStep}
use Rattle.sat_core.specs.declared.outcome.Outcome.{Outcome}
use Rattle.sat_core.specs.Solving.{Solving, AreLearned, Ends}
use Rattle.repair_problem.specs.declared.atom.Atom.{Atom}
use Rattle.repair_problem.specs.declared.atom.Atom.TheVariants.{Triple}
use Rattle.repair_problem.specs.Setting.{Setting}
use Rattle.repair_problem.specs.Candidates.{candidates, in_data}
use Rattle.proof_lines.specs.declared.proof.Claim.{Claim}
use Rattle.proof_lines.specs.declared.proof.Claim.TheVariants as claim
use Rattle.proof_lines.specs.declared.proof.ProofLine.{ProofLine}
use Rattle.proof_lines.specs.declared.proof.ProofLine.TheVariants as line
use Rattle.proof_lines.specs.declared.rule.Rule.{Rule}
use Rattle.proof_lines.specs.declared.rule.RuleName.TheVariants.{Outside, Undo}
use Rattle.premise_rules.specs.Documents.{Lines, no_lines, IsLast, Leads, IsFreshStep}
use Rattle.atom_numbers.specs.Numbers.{lines_of}
use Rattle.certificates.specs.Steps.{step_count}
use Rattle.certificates.specs.Writing.{IsWritable}
use Rattle.clause_ground.specs.declared.premise.Premise.{Premise}
use Rattle.clause_ground.specs.Premises.{clauses_of}
use Rattle.shrink_pair.specs.declared.candidates.Candidate.{Candidate}
use Rattle.shrink_pair.specs.declared.session.Session.{Session}
use Rattle.shrink_pair.specs.Explanations.{pair_count}

-- Candidates.

abbrev pub numbers : List Candidate → List ℕ
numbers cs = map (λ c. c.number) cs

abbrev pub unchanged_lits : List Candidate → List Lit
unchanged_lits cs = map (λ c. c.unchanged) cs

-- each number is less than those behind it
abbrev pub Rises : List ℕ → Type 0
Rises [] = Unit {0}
Rises (n ∷ ns) = ((m : ℕ) → Contains ns m → n < m) × Rises ns

module _ (s : Setting) (atoms : List Atom) where
  -- the atom of the candidate has the number of the variable, and the literal says that it is as in the data
  pub record IsNumbered (c : Candidate) : Type 0 where
    pub atom : slice_get atoms c.unchanged.var ≡ Some (Triple c.number)
    pub sign : c.unchanged.positive ≡ in_data s c.number
    pub below : c.number < length (candidates s)

  abbrev pub IsCandidateAt : ℕ → Option Candidate → Type 0
  IsCandidateAt t (Some c) = (c.number ≡ t) × IsNumbered c
  IsCandidateAt t None = (v : ℕ) → ¬ (slice_get atoms v ≡ Some (Triple t))

  -- they are the candidates below n whose atoms stand in a clause, ascending
  pub record AreNumbered (n : ℕ) (cs : List Candidate) : Type 0 where
    pub numbered : (c : Candidate) → Contains cs c → IsNumbered c
    pub below : (c : Candidate) → Contains cs c → c.number < n
    pub rises : Rises (numbers cs)
    pub all : (v t : ℕ) → slice_get atoms v ≡ Some (Triple t) → t < n → Contains (numbers cs) t
    pub few : length cs ≤ n

-- What a session holds.

-- lines, the clauses of a solver and its log, the candidates that a next pair may still change (those of the last pair
-- or, before there is one, all that stand in a clause), and how many pairs there are
pub record State : Type 0 where
  pub lines : List ProofLine
  pub clauses : List (List Lit)
  pub log : List LogStep
  pub changeable : List Candidate
  pub pairs : ℕ

abbrev pub state_of : Session → State
state_of c =
    record {
      lines = c.lines;
      clauses = c.solver.clauses;
      log = c.solver.log;
      changeable = c.changeable.items;
      pairs = c.pairs;
    }

abbrev pub premise : Rule → List Lit → Premise
premise q c = record { rule = q; lits = c }

abbrev pub rule_lines : List Premise → List ProofLine
rule_lines ps = map (λ p. line.Rule p.rule) ps

-- nothing but the candidates that stand in a clause
abbrev pub started : List Candidate → State
started cs = record { lines = []; clauses = []; log = []; changeable = cs; pairs = 0 }

-- each clause has a literal, and no variable twice
abbrev pub AreProper : List Premise → Type 0
AreProper ps = (p : Premise) → Contains ps p → (p.lits ≢ []) × IsTrue (is_clause p.lits)

-- premises more
abbrev pub with_premises : State → List Premise → State
with_premises t ps =
    record {
      lines = t.lines ++ rule_lines ps;
      clauses = t.clauses ++ clauses_of ps;
      log = t.log;
      changeable = t.changeable;
      pairs = t.pairs;
    }

abbrev pub step_lines : List LogStep → List ProofLine
step_lines steps = map (λ x. line.Step x.ids) steps

-- steps more, which lead to these clauses
abbrev pub with_steps : State → List LogStep → List (List Lit) → State
with_steps t steps clauses =
    record {
      lines = t.lines ++ step_lines steps;
      clauses = clauses;
      log = t.log ++ steps;
      changeable = t.changeable;
      pairs = t.pairs;
    }

-- one pair more, of these candidates
abbrev pub with_pair : State → List Candidate → State
with_pair t cs =
    record {
      lines = t.lines ++ line.Chain (numbers cs) ∷ [];
      clauses = t.clauses;
      log = t.log;
      changeable = cs;
      pairs = suc t.pairs;
    }

-- Under the literals that are true, whether the candidate isn't as in the data.
abbrev pub is_changed : List Lit → Candidate → Bool
is_changed trail c = has trail (opposite c.unchanged)

abbrev pub changed_of : List Lit → List Candidate → List Candidate
changed_of trail cs = filter (is_changed trail) cs

abbrev pub left_of : List Lit → List Candidate → List Candidate
left_of trail cs = filter (λ c. not (is_changed trail c)) cs

abbrev pub AreAssigned : List Lit → List Candidate → Type 0
AreAssigned trail cs = (c : Candidate) → Contains cs c → IsTrue (mentions trail c.unchanged.var)

abbrev pub outside_rule : ℕ → ℕ → Rule
outside_rule j t = record { name = Outside; numbers = j ∷ t ∷ [] }

abbrev pub undo_rule : ℕ → Rule
undo_rule j = record { name = Undo; numbers = j ∷ [] }

abbrev pub outside_premise : ℕ → Candidate → Premise
outside_premise j c = premise (outside_rule j c.number) (c.unchanged ∷ [])

abbrev pub outside_premises : ℕ → List Candidate → List Premise
outside_premises j cs = map (outside_premise j) cs

abbrev pub undo_premise : ℕ → List Candidate → Premise
undo_premise j cs = premise (undo_rule j) (unchanged_lits cs)

-- the pair of the candidates that are changed, and what a pair below it leaves as it is in the data
abbrev pub descended : State → List Lit → State
descended t trail =
    with_premises
    (with_premises (with_pair t (changed_of trail t.changeable))
    (outside_premises t.pairs (left_of trail t.changeable)))
    (undo_premise t.pairs (changed_of trail t.changeable) ∷ [])

abbrev pub first_awaited : ℕ → ℕ
first_awaited zero = 1
first_awaited (suc n) = 0

-- how many pairs may come
abbrev pub awaited : State → ℕ
awaited t = first_awaited t.pairs + length t.changeable

-- What is true between two searches; atoms: by their numbers, premises: those of the problem.
module _ (s : Setting) (atoms : List Atom) (premises : List Premise) where
  pub record IsSession (t : State) : Type 0 where
    pub chain : List (List ℕ)
    pub leads : Leads s IsFreshStep no_lines t.lines (lines_of chain atoms t.clauses)
    pub within : IsTrue (are_within (length atoms) t.clauses)
    pub grounded : (c : List Lit) → Contains (clauses_of premises) c → Contains t.clauses c
    pub numbered : (c : Candidate) → Contains t.changeable c → IsNumbered s atoms c
    pub rises : Rises (numbers t.changeable)
    -- a candidate that can't be changed any more is left as in the data
    pub settled : (c : Candidate) → IsNumbered s atoms c
        → Contains (numbers t.changeable) c.number ⊎ Contains t.clauses (c.unchanged ∷ [])
    pub last : 0 < t.pairs → IsLast chain (numbers t.changeable)
    pub undone : 0 < t.pairs → Contains t.clauses (unchanged_lits t.changeable)
    pub count : length chain ≡ t.pairs
    pub pairs : pair_count t.lines ≡ t.pairs
    pub few : t.pairs + awaited t ≤ suc (length (candidates s))
    pub steps : step_count t.lines ≡ length t.log
    pub writable : (l : ProofLine) → Contains t.lines l → IsWritable l

-- what a search has added: the steps that it learned, no more than the budget in all
pub record IsSearched (budget : ℕ) (old new : State) (solver : Solving) (o : Outcome) : Type 0 where
  pub steps : List LogStep
  pub learned : AreLearned old.clauses steps new.clauses
  pub state : new ≡ with_steps old steps new.clauses
  pub once : IsTrue (are_clauses new.clauses)
  pub bound : length new.log ≤ budget
  pub ends : Ends budget solver o

-- what is claimed where the last clause is empty, by the number of pairs
abbrev pub claim_refuted : ℕ → Claim
claim_refuted zero = claim.NoPair
claim_refuted (suc n) = claim.Pair
