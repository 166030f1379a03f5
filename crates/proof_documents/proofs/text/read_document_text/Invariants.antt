use Rattle.std.proofs.Common.{length}
use Rattle.proof_documents.proofs.Walking.{HasWalked}
use Rattle.proof_documents.proofs.text.read_document_text.Given as goal

abbrev pub invariant-lines : goal.invariant-lines
invariant-lines l = HasWalked l.bytes l.rest l.draft l.line

abbrev pub decreases-lines : goal.decreases-lines
decreases-lines l = length l.rest
