-- What `check` says of a document.
use Rattle.std.specs.Prelude.{◌≡◌, ◌≢◌, ◌⊎◌, ℕ, List, ◌++◌, codes}
use Rattle.rdf_terms.specs.Graph.{of_list}
use Rattle.repair_problem.specs.Setting.{Setting}
use Rattle.proof_lines.specs.declared.proof.Claim.{Claim as Claimed}
use Rattle.proof_lines.specs.declared.proof.Claim.TheVariants as claimed
use Rattle.proof_documents.specs.Document.{Document as Claim}
use Rattle.certificates.specs.declared.refusal.CheckRefusal.{CheckRefusal}
use Rattle.certificates.specs.declared.refusal.CheckRefusal.TheVariants.{OutOfMemory}
use Rattle.certificates.specs.Checks.{IsAcceptedDocument, IsRejection}
use Rattle.certificates.specs.Shown.{IsShown}
use Rattle.explain_cli.specs.declared.report.Report.{Report}
use Rattle.explain_cli.specs.declared.status.Status.TheVariants.{Done, No}
use Rattle.explain_cli.specs.Notes.{line, rejected_line}
use Rattle.explain_cli.specs.Reports.{answer, note}

abbrev pub claim_word : Claimed → List ℕ
claim_word claimed.Pair = codes "pair"
claim_word claimed.NoPair = codes "none"
claim_word claimed.Spent = codes "spent"

abbrev pub accepted_line : Claimed → List ℕ
accepted_line claim = line (codes "accepted " ++ claim_word claim)

-- out says that the document is accepted; so what it claims is true, and each pair of its chain explains
pub record Accepts (s : Setting) (claim : Claim) (report : Report) : Type 0 where
  pub accepted : IsAcceptedDocument s claim
  pub shown : IsShown s (of_list claim.adds) (of_list claim.deletes) claim.proof
  pub texts : report ≡ answer Done (accepted_line claim.proof.claim)

-- the notes name the first reason why the document is not accepted
pub record Rejects (s : Setting) (claim : Claim) (report : Report) : Type 0 where
  pub reason : CheckRefusal
  pub stated : reason ≢ OutOfMemory
  pub first : IsRejection s claim reason
  pub not_accepted : ¬ (IsAcceptedDocument s claim)
  pub texts : report ≡ note No (rejected_line reason)

abbrev pub Judges : Setting → Claim → Report → Type 0
Judges s claim report = Accepts s claim report ⊎ Rejects s claim report
