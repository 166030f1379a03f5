-- What the checker of the lines of a proof keeps, and how it answers. Private functions cite it.
use Rattle.std.specs.Prelude.{◌≡◌, ◌≤◌, ℕ, IsTrue, List, [], ◌∷◌, length, Some, slice_get}
use Rattle.std.specs.Prelude.{◌+◌, ◌++◌, Bool, true, false, take, Result, Ok, Err}
use Rattle.std.specs.List.{All}
use Rattle.clause_store.specs.declared.lit.Lit.{Lit}
use Rattle.clause_store.specs.Clauses.{are_within}
use Rattle.repair_problem.specs.declared.atom.Atom.{Atom}
use Rattle.repair_problem.specs.Setting.{Setting}
use Rattle.repair_problem.specs.Changes.{AreCandidates}
use Rattle.proof_lines.specs.declared.proof.Claim.{Claim}
use Rattle.proof_lines.specs.declared.proof.Claim.TheVariants as claim
use Rattle.proof_lines.specs.declared.proof.ProofLine.{ProofLine}
use Rattle.proof_lines.specs.declared.proof.ProofLine.TheVariants as line
use Rattle.rdf_terms.specs.declared.memory.OutOfMemory.{OutOfMemory}
use Rattle.premise_rules.specs.declared.refusal.RuleRefusal.{RuleRefusal}
use Rattle.premise_rules.specs.declared.refusal.RuleRefusal.TheVariants as rule_refusal
use Rattle.refute_check.specs.declared.refusal.StepRefusal.{StepRefusal}
use Rattle.refute_check.specs.declared.refusal.StepRefusal.TheVariants as step_refusal
use Rattle.premise_rules.specs.Documents.{Lines, no_lines, Leads, AnyStep}
use Rattle.atom_numbers.specs.Numbers.{lines_of, AreApart}
use Rattle.proof_documents.specs.Document.{Document}
use Rattle.certificates.specs.Checks.{IsOutside, IsNotBelow, IsNotConforming, IsBadRule, IsBadStep, FitsClaim, IsDone}
use Rattle.certificates.specs.declared.refusal.CheckRefusal.{CheckRefusal}
use Rattle.certificates.specs.declared.refusal.CheckRefusal.TheVariants as check
use Rattle.certificates.specs.declared.refusal.LineRefusal.{LineRefusal}
use Rattle.certificates.specs.declared.refusal.LineRefusal.TheVariants as refusal

-- what the checker keeps: the pairs so far, the atoms by their numbers, the clauses in numbers, and for how many
-- variables there is room
pub record IsReady (s : Setting) (chain : List (List ℕ)) (atoms : List Atom) (clauses : List (List Lit)) (room : ℕ)
    : Type 0 where
  pub candidates : All (AreCandidates s) chain
  pub apart : AreApart atoms
  pub within : IsTrue (are_within (length atoms) clauses)
  pub has_room : length atoms ≤ room

-- why a line is refused; want of memory says nothing
abbrev pub IsLineRefusal : Setting → Lines → ProofLine → LineRefusal → Type 0
IsLineRefusal s above l refusal.PairOutside = IsOutside s above l
IsLineRefusal s above l refusal.NotBelow = IsNotBelow s above l
IsLineRefusal s above l refusal.NotConforming = IsNotConforming s above l
IsLineRefusal s above l refusal.BadRule = IsBadRule s above l
IsLineRefusal s above l refusal.BadStep = IsBadStep s above l
IsLineRefusal s above l refusal.OutOfMemory = Unit {0}

-- the line can stand there, and behind it stands what the last says; or why it can't
abbrev pub IsChecked : Setting → Lines → ProofLine → Lines → Result (Unit {0}) LineRefusal → Type 0
IsChecked s above l below (Ok u) = Leads s AnyStep above (l ∷ []) below
IsChecked s above l below (Err e) = IsLineRefusal s above l e

-- the refusal of a line, as that of the line of the document with this number
abbrev pub refused_at : LineRefusal → ℕ → CheckRefusal
refused_at refusal.PairOutside number = check.PairOutside number
refused_at refusal.NotBelow number = check.NotBelow number
refused_at refusal.NotConforming number = check.NotConforming number
refused_at refusal.BadRule number = check.BadRule number
refused_at refusal.BadStep number = check.BadStep number
refused_at refusal.OutOfMemory number = check.OutOfMemory

-- the first of the lines that can't stand there fails so, and the first line is that of the document with this number
pub record IsRefusedLine (s : Setting) (lines : List ProofLine) (first : ℕ) (e : CheckRefusal) : Type 0 where
  pub place : ℕ
  pub own : ProofLine
  pub here : slice_get lines place ≡ Some own
  pub above : Lines
  pub leads : Leads s AnyStep no_lines (take place lines) above
  pub refusal : LineRefusal
  pub fails : IsLineRefusal s above own refusal
  pub is : e ≡ refused_at refusal (first + place)

-- the last clause is empty, where the claim needs it
abbrev pub IsEnded : Claim → List (List Lit) → Type 0
IsEnded claim.Pair clauses = (cs : List (List Lit)) × (clauses ≡ cs ++ [] ∷ [])
IsEnded claim.NoPair clauses = (cs : List (List Lit)) × (clauses ≡ cs ++ [] ∷ [])
IsEnded claim.Spent clauses = Unit {0}

-- what the lines lead to fits the claim; or why it doesn't
abbrev pub IsClaimChecked : Setting → Document → Lines → Result (Unit {0}) CheckRefusal → Type 0
IsClaimChecked s d end (Ok u) = FitsClaim s d d.proof.claim end.chain × IsDone d.proof.claim end
IsClaimChecked s d end (Err check.WrongClaim) = ¬ (FitsClaim s d d.proof.claim end.chain)
IsClaimChecked s d end (Err check.NotEmpty) = FitsClaim s d d.proof.claim end.chain × ¬ (IsDone d.proof.claim end)
IsClaimChecked s d end (Err check.OutOfMemory) = Unit {0}
IsClaimChecked s d end (Err e) = ⊥

-- why a pair is refused below those of the chain
abbrev pub IsPairRefusal : Setting → List (List ℕ) → List ℕ → LineRefusal → Type 0
IsPairRefusal s chain pair e = IsLineRefusal s (lines_of chain [] []) (line.Chain pair) e

-- the answer for a pair of candidates, that is below the last one and edits a graph that conforms or not
abbrev pub pair_answer : Bool → Bool → Result (Unit {0}) LineRefusal
pair_answer false conforms = Err refusal.NotBelow
pair_answer true false = Err refusal.NotConforming
pair_answer true true = Ok tt

-- want of memory, and why rules and steps are refused, as the refusals of lines
abbrev pub kept_or_memory : Result (Unit {0}) OutOfMemory → Result (Unit {0}) LineRefusal
kept_or_memory (Ok u) = Ok u
kept_or_memory (Err e) = Err refusal.OutOfMemory

abbrev pub rule_refused : RuleRefusal → LineRefusal
rule_refused rule_refusal.OutOfRange = refusal.BadRule
rule_refused rule_refusal.Tautology = refusal.BadRule
rule_refused rule_refusal.OutOfMemory = refusal.OutOfMemory

abbrev pub step_refused : StepRefusal → LineRefusal
step_refused (step_refusal.UnknownId k) = refusal.BadStep
step_refused (step_refusal.NoSingleClash k) = refusal.BadStep
step_refused step_refusal.OutOfMemory = refusal.OutOfMemory

-- the answer, where the chain fits the claim, and the last clause is as the claim needs it
abbrev pub claim_answer : Bool → Bool → Result (Unit {0}) CheckRefusal
claim_answer false done = Err check.WrongClaim
claim_answer true false = Err check.NotEmpty
claim_answer true true = Ok tt
