use Rattle.std.proofs.Common.{IfSome, sym, subst}
use Rattle.proof_documents.specs.Document.{Document}
use Rattle.repair_problem.specs.Changes.{AreCandidates}
use Rattle.certificates.specs.Writing.{claimed_pair}
use Rattle.certificates.proofs.Shown.{claimed_candidates}
use Rattle.command_tests.proofs.documents.written_again.Goals as goal

pub document_bytes-requires : goal.document_bytes-requires
document_bytes-requires c =
    subst (λ (d : Document). IfSome (claimed_pair d.proof) (AreCandidates c.args.problem.now)) (sym c.text.view_is)
    (claimed_candidates _ _ _ _ c.in_ok-_accepted.ensures.shown)
