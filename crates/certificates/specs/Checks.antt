-- When a document is accepted, and otherwise why it is not: the first of its lines that can't stand where it stands,
-- and then what all of them together lack. Lines are counted from 1.
use Rattle.std.specs.Prelude.{◌≡◌, ◌≢◌, ◌⊎◌, ℕ, ◌+◌, Bool, true, false, IsTrue, List, [], ◌∷◌, ◌++◌, length, take}
use Rattle.std.specs.Prelude.{Some, slice_get, Result, Ok, Err}
use Rattle.std.specs.List.{All}
use Rattle.rdf_terms.specs.Statement.{Statement}
use Rattle.rdf_terms.specs.Graph.{has, of_list}
use Rattle.shapes_graph.specs.Conformance.{Conforms}
use Rattle.repair_problem.specs.declared.atom.Literal.{Literal}
use Rattle.repair_problem.specs.Setting.{Setting}
use Rattle.repair_problem.specs.Candidates.{edited_by}
use Rattle.repair_problem.specs.Changes.{AreCandidates, ChangeBelow}
use Rattle.proof_lines.specs.declared.proof.Claim.{Claim}
use Rattle.proof_lines.specs.declared.proof.Claim.TheVariants as claim
use Rattle.proof_lines.specs.declared.proof.ProofLine.{ProofLine}
use Rattle.proof_lines.specs.declared.proof.ProofLine.TheVariants as line
use Rattle.proof_documents.specs.Document.{Document}
use Rattle.proof_documents.specs.Applying.{Change, changes}
use Rattle.premise_rules.specs.declared.clause.Clause.TheVariants.{Literals}
use Rattle.premise_rules.specs.RuleClauses.{rule_clause}
use Rattle.premise_rules.specs.Chains.{IsChained}
use Rattle.premise_rules.specs.Documents.{Lines, no_lines, IsLast, Leads, AnyStep, IsRefuted, IsClaimed, IsAccepted}
use Rattle.certificates.specs.declared.refusal.CheckRefusal.{CheckRefusal}
use Rattle.certificates.specs.declared.refusal.CheckRefusal.TheVariants as refusal

-- the proof shows what it claims of the triples of the document
abbrev pub IsAcceptedDocument : Setting → Document → Type 0
IsAcceptedDocument s d = IsAccepted s (of_list d.adds) (of_list d.deletes) d.proof

-- an added triple is an offer, and a deleted one is in the data
abbrev pub IsThereIn : Setting → Bool → Statement → Type 0
IsThereIn s true t = IsTrue (has s.offers t)
IsThereIn s false t = IsTrue (has s.present t)

abbrev pub IsThere : Setting → Change → Type 0
IsThere s c = IsThereIn s c.adding c.triple

-- the changes that a document claims; only a claimed pair has some
abbrev pub changes_of : Claim → List Change → List Change
changes_of claim.Pair cs = cs
changes_of claim.NoPair cs = []
changes_of claim.Spent cs = []

abbrev pub claimed_changes : Document → List Change
claimed_changes d = changes_of d.proof.claim (changes d)

abbrev pub AreChangesThere : Setting → Document → Type 0
AreChangesThere s d = All (IsThere s) (claimed_changes d)

-- The first claimed change that is not there stands on this line. They stand from line 3 on.
pub record IsChangeOutside (s : Setting) (d : Document) (number : ℕ) : Type 0 where
  pub before : List Change
  pub change : Change
  pub after : List Change
  pub parts : claimed_changes d ≡ before ++ change ∷ after
  pub there : All (IsThere s) before
  pub outside : ¬ (IsThere s change)
  pub count : number ≡ length before + 3

-- Why a line can't stand below these lines.

-- it names what is no candidate
abbrev pub IsOutside : Setting → Lines → ProofLine → Type 0
IsOutside s above (line.Chain pair) = ¬ (AreCandidates s pair)
IsOutside s above (line.Rule rule) = ⊥
IsOutside s above (line.Step ids) = ⊥

abbrev pub IsBelowLast : List (List ℕ) → List ℕ → Type 0
IsBelowLast chain pair = (before : List ℕ) → IsLast chain before → ChangeBelow pair before

-- its pair is not below the one before it
abbrev pub IsNotBelow : Setting → Lines → ProofLine → Type 0
IsNotBelow s above (line.Chain pair) = AreCandidates s pair × ¬ (IsBelowLast above.chain pair)
IsNotBelow s above (line.Rule rule) = ⊥
IsNotBelow s above (line.Step ids) = ⊥

-- the graph that its pair edits does not conform
abbrev pub IsNotConforming : Setting → Lines → ProofLine → Type 0
IsNotConforming s above (line.Chain pair) =
    AreCandidates s pair × IsBelowLast above.chain pair × ¬ (Conforms s.shapes (edited_by s pair))
IsNotConforming s above (line.Rule rule) = ⊥
IsNotConforming s above (line.Step ids) = ⊥

-- its rule gives no clause, with the pairs above it
abbrev pub IsBadRule : Setting → Lines → ProofLine → Type 0
IsBadRule s above (line.Chain pair) = ⊥
IsBadRule s above (line.Rule rule) =
    (ls : List Literal) → rule_clause s above.chain rule.name rule.numbers ≢ Literals ls
IsBadRule s above (line.Step ids) = ⊥

-- the clauses of its ids are chained to none
abbrev pub IsBadStep : Setting → Lines → ProofLine → Type 0
IsBadStep s above (line.Chain pair) = ⊥
IsBadStep s above (line.Rule rule) = ⊥
IsBadStep s above (line.Step ids) = (c : List Literal) → ¬ (IsChained above.clauses ids c)

-- All changes are there, and the first line of the proof that can't stand there stands on this line of the document and
-- fails so. The lines of a proof come below those of the version, the claim and the triples.
pub record FailsAt (Fails : Lines → ProofLine → Type 0) (s : Setting) (d : Document) (number : ℕ) : Type 0 where
  pub there : AreChangesThere s d
  pub place : ℕ
  pub own : ProofLine
  pub here : slice_get d.proof.lines place ≡ Some own
  pub above : Lines
  pub leads : Leads s AnyStep no_lines (take place d.proof.lines) above
  pub fails : Fails above own
  pub count : number ≡ 3 + (length d.adds + length d.deletes) + place

-- the chain fits what is claimed
abbrev pub FitsClaim : Setting → Document → Claim → List (List ℕ) → Type 0
FitsClaim s d claim.Pair chain = IsClaimed s (of_list d.adds) (of_list d.deletes) chain
FitsClaim s d claim.NoPair chain = chain ≡ []
FitsClaim s d claim.Spent chain = Unit {0}

-- the last clause is empty, where the claim needs it
abbrev pub IsDone : Claim → Lines → Type 0
IsDone claim.Pair end = IsRefuted end
IsDone claim.NoPair end = IsRefuted end
IsDone claim.Spent end = Unit {0}

-- all changes are there and all lines can stand where they stand, and together they fail so
pub record FailsInAll (Fails : Lines → Type 0) (s : Setting) (d : Document) : Type 0 where
  pub there : AreChangesThere s d
  pub end : Lines
  pub leads : Leads s AnyStep no_lines d.proof.lines end
  pub fails : Fails end

-- the first reason why the document is not accepted; want of memory says nothing
abbrev pub IsRejection : Setting → Document → CheckRefusal → Type 0
IsRejection s d (refusal.PairOutside number) = IsChangeOutside s d number ⊎ FailsAt (IsOutside s) s d number
IsRejection s d (refusal.NotBelow number) = FailsAt (IsNotBelow s) s d number
IsRejection s d (refusal.NotConforming number) = FailsAt (IsNotConforming s) s d number
IsRejection s d (refusal.BadRule number) = FailsAt (IsBadRule s) s d number
IsRejection s d (refusal.BadStep number) = FailsAt (IsBadStep s) s d number
IsRejection s d refusal.WrongClaim = FailsInAll (λ end. ¬ (FitsClaim s d d.proof.claim end.chain)) s d
IsRejection s d refusal.NotEmpty =
    FailsInAll (λ end. FitsClaim s d d.proof.claim end.chain × ¬ (IsDone d.proof.claim end)) s d
IsRejection s d refusal.OutOfMemory = Unit {0}

-- not accepted, unless memory could not be had
abbrev pub IsNotAccepted : Setting → Document → CheckRefusal → Type 0
IsNotAccepted s d refusal.OutOfMemory = Unit {0}
IsNotAccepted s d _ = ¬ (IsAcceptedDocument s d)

abbrev pub IsVerdict : Setting → Document → Result (Unit {0}) CheckRefusal → Type 0
IsVerdict s d (Ok u) = IsAcceptedDocument s d
IsVerdict s d (Err e) = IsRejection s d e
