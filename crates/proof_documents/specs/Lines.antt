-- What the functions that read one line say of it. Private functions alone cite this module.
use Rattle.std.specs.Prelude.{◌≡◌, ℕ, List, ◌++◌}
use Rattle.rdf_terms.specs.Statement.{Statement}
use Rattle.ntriples_io.specs.CanonicalText.{line_text}
use Rattle.proof_lines.specs.declared.proof.ProofLine.{ProofLine}
use Rattle.proof_documents.specs.Document.{IsSpelled, IsLawfulLine}
use Rattle.proof_documents.specs.DocumentText.{line, proof_line_text}

-- the text, which has no LF, is that of this line of a proof
pub record IsProofLine (text : List ℕ) (l : ProofLine) : Type 0 where
  pub lawful : IsLawfulLine l
  pub spelled : text ≡ proof_line_text l

-- the text, with an LF, is the prefix and the canonical line of this triple
pub record IsTripleLine (prefix text : List ℕ) (t : Statement) : Type 0 where
  pub lawful : IsSpelled t
  pub spelled : line text ≡ prefix ++ line_text t
