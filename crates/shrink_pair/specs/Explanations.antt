-- What is answered of a repair problem: a proof that is accepted, within the budget of steps.
use Rattle.std.specs.Prelude.{◌≡◌, ◌≤◌, ◌⊎◌, ◌^◌, ℕ, suc, List, [], ◌∷◌, length}
use Rattle.std.specs.List.{All}
use Rattle.rdf_terms.specs.Graph.{of_list}
use Rattle.shapes_graph.specs.Conformance.{Conforms}
use Rattle.repair_problem.specs.declared.atom.Atom.{Atom}
use Rattle.repair_problem.specs.Repair.{NoneExplains}
use Rattle.repair_problem.specs.Setting.{Setting}
use Rattle.repair_problem.specs.Candidates.{candidates}
use Rattle.proof_lines.specs.declared.proof.Claim.TheVariants.{NoPair, Spent}
use Rattle.proof_lines.specs.declared.proof.ProofLine.{ProofLine}
use Rattle.proof_lines.specs.declared.proof.ProofLine.TheVariants as line
use Rattle.proof_lines.specs.declared.proof.Proof.{Proof}
use Rattle.premise_rules.specs.Documents.{IsFresh}
use Rattle.certificates.specs.Checks.{IsAcceptedDocument}
use Rattle.certificates.specs.Shown.{IsShown}
use Rattle.certificates.specs.Steps.{step_count, AreRuleAtomsIn}
use Rattle.certificates.specs.Writing.{document_of, IsWritable}

-- how many pairs the chain of the lines has
abbrev pub pair_count : List ProofLine → ℕ
pair_count [] = 0
pair_count (line.Chain pair ∷ rest) = suc (pair_count rest)
pair_count (line.Rule rule ∷ rest) = pair_count rest
pair_count (line.Step ids ∷ rest) = pair_count rest

-- as many steps were made as the budget allows, each of them fresh, so that none is of the empty clause; and the budget
-- is at most 3^a, where the clauses of the rules have no other atoms than those of a list of a
pub record IsUsedUp (s : Setting) (budget : ℕ) (proof : Proof) : Type 0 where
  pub steps : step_count proof.lines ≡ budget
  pub fresh : IsFresh s proof
  pub bound : (atoms : List Atom) → AreRuleAtomsIn s atoms [] proof.lines → budget ≤ 3 ^ length atoms

-- The document of the proof is accepted, its claim is true, and each line can be written. It has at most the budget's
-- steps, and its chain at most one pair more than there are candidates. It claims nothing only where the budget is used
-- up; where no pair explains, it claims that or nothing.
pub record IsExplanation (s : Setting) (budget : ℕ) (proof : Proof) : Type 0 where
  pub accepted : IsAcceptedDocument s (document_of s proof)
  pub shown : IsShown s (of_list (document_of s proof).adds) (of_list (document_of s proof).deletes) proof
  pub writable : All IsWritable proof.lines
  pub steps : step_count proof.lines ≤ budget
  pub pairs : pair_count proof.lines ≤ suc (length (candidates s))
  pub spent : proof.claim ≡ Spent → IsUsedUp s budget proof
  pub none : NoneExplains (Conforms s.shapes) s.present s.offers → (proof.claim ≡ NoPair) ⊎ (proof.claim ≡ Spent)
