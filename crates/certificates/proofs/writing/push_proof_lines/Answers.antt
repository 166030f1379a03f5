use Rattle.std.proofs.Common.{◌++◌, [], ◌∷◌, ap, ◌∙◌, append_assoc}
use Rattle.proof_documents.specs.DocumentText.{line, proof_line_text}
use Rattle.certificates.specs.Writing.{IsLawfulIfWritable}
use Rattle.certificates.proofs.Written.{begun, one_more, ended, all_begun, all_more, all_ended}
use Rattle.certificates.proofs.writing.push_proof_lines.Goals as goal

pub lines-init : goal.lines-init
lines-init c = record {
  text = begun (λ x. line (proof_line_text x)) c.args.lines.now c.args.out.now;
  lawful = all_begun IsLawfulIfWritable c.args.lines.now;
}

pub lines-preserved : goal.lines-preserved
lines-preserved c = record {
  text =
      one_more (λ x. line (proof_line_text x)) c.args.lines.now c.args.out.now c.lines.out c.append.new.self c.lines.line-index c.line-item.result c.lines-test.true c.line-item.is c.lines.invariant.text
      (c.in_ok-append.ensures.ok ∙ (ap (λ o. o ++ 10 ∷ []) c.in_ok-push_proof_line.ensures.text ∙ append_assoc c.lines.out (proof_line_text c.line-item.result) (10 ∷ [])));
  lawful = all_more IsLawfulIfWritable c.args.lines.now c.lines.line-index c.line-item.result c.lines-test.true c.line-item.is c.lines.invariant.lawful c.in_ok-push_proof_line.ensures.lawful;
}

pub returns-clause-text : goal.returns-clause-text
returns-clause-text c = ended (λ x. line (proof_line_text x)) c.args.lines.now c.args.out.now c.lines.out c.lines.line-index c.lines-test.false c.lines.invariant.text

pub returns-clause-lawful : goal.returns-clause-lawful
returns-clause-lawful c = all_ended IsLawfulIfWritable c.args.lines.now c.lines.line-index c.lines-test.false c.lines.invariant.lawful
