use Rattle.proof_documents.proofs.ProofLines.{no_line}
use Rattle.proof_documents.proofs.proof_line.parse_line.Goals as goal

pub returns-in_default-clause-only : goal.returns-in_default-clause-only
returns-in_default-clause-only c = λ line h.
    absurd (no_line c.args.text.now _ _ c.split_at_space.ensures c.in_default.not-chain c.in_default.not-rule c.in_default.not-step line h)
