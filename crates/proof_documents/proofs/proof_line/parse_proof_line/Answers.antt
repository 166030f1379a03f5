use Rattle.proof_documents.proofs.ProofLines.{line_is_text}
use Rattle.proof_documents.proofs.proof_line.parse_proof_line.Goals as goal

pub returns-in-Err-clause-only : goal.returns-in-Err-clause-only
returns-in-Err-clause-only c = λ line h. absurd (c.in-Err.ensures.cases.0 (line_is_text c.args.text.now line h))
