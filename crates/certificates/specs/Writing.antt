-- The document of a proof: where a pair is claimed, its triples are those of the last pair of the chain. And when its
-- text is read back.
use Rattle.std.specs.Prelude.{◌≤◌, ℕ, IsTrue, List, [], ◌∷◌, Option, Some, None, length}
use Rattle.rdf_terms.specs.declared.term.Scope.TheVariants.{Data}
use Rattle.rdf_terms.specs.Statement.{Statement}
use Rattle.rdf_terms.specs.Graph.{triples}
use Rattle.rdf_grammar.specs.Lawful.{IsLawfulTriple}
use Rattle.ntriples_io.specs.Text.{AreLawful}
use Rattle.ntriples_io.specs.RoundTrip.{IsTripleInScope, HasScope}
use Rattle.repair_problem.specs.Setting.{Setting}
use Rattle.repair_problem.specs.Candidates.{additions, deletions}
use Rattle.proof_lines.specs.declared.proof.Claim.{Claim}
use Rattle.proof_lines.specs.declared.proof.Claim.TheVariants as claim
use Rattle.proof_lines.specs.declared.proof.ProofLine.{ProofLine}
use Rattle.proof_lines.specs.declared.proof.ProofLine.TheVariants as line
use Rattle.proof_lines.specs.declared.proof.Proof.{Proof}
use Rattle.proof_documents.specs.Document.{Document, IsSpelled, IsLawfulLine, ascends}

-- the pair of the last chain line of these, and of none the one before them
abbrev pub pair_behind : Option (List ℕ) → List ProofLine → Option (List ℕ)
pair_behind before [] = before
pair_behind before (line.Chain pair ∷ rest) = pair_behind (Some pair) rest
pair_behind before (line.Rule rule ∷ rest) = pair_behind before rest
pair_behind before (line.Step ids ∷ rest) = pair_behind before rest

abbrev pub pair_of : Claim → List ProofLine → Option (List ℕ)
pair_of claim.Pair lines = pair_behind None lines
pair_of claim.NoPair lines = None
pair_of claim.Spent lines = None

-- the pair that is claimed, if one is
abbrev pub claimed_pair : Proof → Option (List ℕ)
claimed_pair proof = pair_of proof.claim proof.lines

abbrev pub added_of : Setting → Option (List ℕ) → List Statement
added_of s None = []
added_of s (Some pair) = triples (additions s pair)

abbrev pub deleted_of : Setting → Option (List ℕ) → List Statement
deleted_of s None = []
deleted_of s (Some pair) = triples (deletions s pair)

abbrev pub document_of : Setting → Proof → Document
document_of s proof =
    record { adds = added_of s (claimed_pair proof); deletes = deleted_of s (claimed_pair proof); proof = proof }

-- a document can spell the data and the offers: their terms are lawful, and their blank nodes are those of the data
pub record IsSpellable (s : Setting) : Type 0 where
  pub present_lawful : AreLawful s.present
  pub offers_lawful : AreLawful s.offers
  pub present_scoped : HasScope Data s.present
  pub offers_scoped : HasScope Data s.offers

-- the numbers of a chain line ascend, and a step has at least two ids
abbrev pub IsWritable : ProofLine → Type 0
IsWritable (line.Chain pair) = IsTrue (ascends pair)
IsWritable (line.Rule rule) = Unit {0}
IsWritable (line.Step ids) = 2 ≤ length ids

-- Private functions cite these two.
abbrev pub IsSpelledIfLawful : Statement → Type 0
IsSpelledIfLawful t = IsLawfulTriple t → IsTripleInScope Data t → IsSpelled t

abbrev pub IsLawfulIfWritable : ProofLine → Type 0
IsLawfulIfWritable l = IsWritable l → IsLawfulLine l
