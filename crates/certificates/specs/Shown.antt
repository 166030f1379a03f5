-- What an accepted proof shows.
use Rattle.std.specs.Prelude.{ℕ, List, Contains}
use Rattle.rdf_terms.specs.Graph.{Graph}
use Rattle.shapes_graph.specs.Conformance.{Conforms}
use Rattle.repair_problem.specs.Repair.{Minimal, NoneExplains}
use Rattle.repair_problem.specs.Setting.{Setting}
use Rattle.repair_problem.specs.Changes.{ChangeExplains}
use Rattle.proof_lines.specs.declared.proof.Claim.{Claim}
use Rattle.proof_lines.specs.declared.proof.Claim.TheVariants.{Pair, NoPair, Spent}
use Rattle.proof_lines.specs.declared.proof.ProofLine.{ProofLine}
use Rattle.proof_lines.specs.declared.proof.ProofLine.TheVariants as line
use Rattle.proof_lines.specs.declared.proof.Proof.{Proof}
use Rattle.premise_rules.specs.Documents.{IsAccepted}

-- the claim is true: the pair is minimal, or no pair explains
abbrev pub IsTrueClaim : Setting → Graph → Graph → Claim → Type 0
IsTrueClaim s adds deletes Pair = Minimal (Conforms s.shapes) s.present s.offers adds deletes
IsTrueClaim s adds deletes NoPair = NoneExplains (Conforms s.shapes) s.present s.offers
IsTrueClaim s adds deletes Spent = Unit {0}

-- each pair of the chain explains
abbrev pub DoPairsExplain : Setting → List ProofLine → Type 0
DoPairsExplain s lines = (pair : List ℕ) → Contains lines (line.Chain pair) → ChangeExplains (Conforms s.shapes) s pair

-- adds and deletes: of the claimed pair
pub record IsShown (s : Setting) (adds deletes : Graph) (proof : Proof) : Type 0 where
  pub claim : IsTrueClaim s adds deletes proof.claim
  pub pairs : DoPairsExplain s proof.lines

-- each accepted proof shows what it claims
abbrev pub AreAllShown : Setting → Type 0
AreAllShown s = (adds deletes : Graph) (proof : Proof) → IsAccepted s adds deletes proof → IsShown s adds deletes proof
