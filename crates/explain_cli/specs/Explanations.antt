-- What `explain` says of shapes, data and offers: a document whose proof is accepted, and what is true where it has
-- each claim.
use Rattle.std.specs.Prelude.{◌≡◌, ◌≢◌, ◌≤◌, ◌^◌, ◌⊎◌, ℕ, List, length, Contains}
use Rattle.rdf_terms.specs.Graph.{of_list}
use Rattle.shapes_graph.specs.Conformance.{Conforms}
use Rattle.repair_problem.specs.declared.atom.Atom.{Atom}
use Rattle.repair_problem.specs.Repair.{Minimal, NoneExplains}
use Rattle.repair_problem.specs.Setting.{Setting}
use Rattle.proof_lines.specs.declared.proof.Claim.TheVariants as claimed
use Rattle.atom_parts.specs.Fixing.{NoAtom, fixing}
use Rattle.proof_documents.specs.Document.{Document}
use Rattle.proof_documents.specs.DocumentText.{document_text}
use Rattle.proof_documents.specs.Text.{IsDocument}
use Rattle.premise_rules.specs.Documents.{IsFresh}
use Rattle.certificates.specs.Checks.{IsAcceptedDocument}
use Rattle.certificates.specs.Steps.{step_count}
use Rattle.explain_cli.specs.declared.report.Report.{Report}
use Rattle.explain_cli.specs.declared.status.Status.{Status}
use Rattle.explain_cli.specs.declared.status.Status.TheVariants.{Done, No, Spent}
use Rattle.explain_cli.specs.Reports.{answer}

-- the numbers of the atom name one
abbrev pub IsAtom : Setting → Atom → Type 0
IsAtom s a = fixing s a ≢ NoAtom

-- the budget is at most 3^a, where a list of a has all atoms
abbrev pub IsWithinBound : Setting → ℕ → Type 0
IsWithinBound s budget = (atoms : List Atom) → ((a : Atom) → IsAtom s a → Contains atoms a) → budget ≤ 3 ^ length atoms

-- out is the text of the document, which is read back as this document and no other, and notes are empty; its proof is
-- accepted, and has at most the budget's steps
pub record WritesProof (s : Setting) (budget : ℕ) (status : Status) (d : Document) (report : Report) : Type 0 where
  pub accepted : IsAcceptedDocument s d
  pub within : step_count d.proof.lines ≤ budget
  pub texts : report ≡ answer status (document_text d)
  pub read_back : IsDocument report.out d

-- the document claims a pair that explains, and below which no other pair explains
pub record FindsPair (s : Setting) (budget : ℕ) (report : Report) : Type 0 where
  pub document : Document
  pub claim : document.proof.claim ≡ claimed.Pair
  pub minimal : Minimal (Conforms s.shapes) s.present s.offers (of_list document.adds) (of_list document.deletes)
  pub written : WritesProof s budget Done document report

-- the document claims that no pair explains, and none does
pub record FindsNone (s : Setting) (budget : ℕ) (report : Report) : Type 0 where
  pub document : Document
  pub claim : document.proof.claim ≡ claimed.NoPair
  pub none : NoneExplains (Conforms s.shapes) s.present s.offers
  pub written : WritesProof s budget No document report

-- the document claims nothing; it has exactly the budget's steps, each of them fresh
pub record SpendsBudget (s : Setting) (budget : ℕ) (report : Report) : Type 0 where
  pub document : Document
  pub claim : document.proof.claim ≡ claimed.Spent
  pub steps : step_count document.proof.lines ≡ budget
  pub fresh : IsFresh s document.proof
  pub bound : IsWithinBound s budget
  pub written : WritesProof s budget Spent document report

abbrev pub IsExplained : Setting → ℕ → Report → Type 0
IsExplained s budget report = FindsPair s budget report ⊎ FindsNone s budget report ⊎ SpendsBudget s budget report
