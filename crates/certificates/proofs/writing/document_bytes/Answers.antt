use Rattle.std.proofs.Common.{◌≡◌, subst, All, rules}
use Rattle.proof_documents.specs.DocumentText.{document_text}
use Rattle.certificates.specs.Writing.{document_of, IsLawfulIfWritable}
use Rattle.certificates.proofs.ReadBack.{read_back}
use Rattle.certificates.proofs.writing.document_bytes.Goals as goal

pub returns-clause-read_back : goal.returns-clause-read_back
returns-clause-read_back c =
    let text : c.append-4.new.self ≡ document_text (document_of c.args.problem.now c.args.proof.now) = search rules in
    read_back c.args.problem.now c.args.proof.now c.append-4.new.self text c.in_ok-push_claimed.ensures.added c.in_ok-push_claimed.ensures.deleted
    (subst (λ ls. All IsLawfulIfWritable ls) c.as_slice.ensures c.in_ok-push_proof_lines.ensures.lawful)
