use Rattle.std.proofs.Common.{arith, rules, inl, inr, Ok, Err}
use Rattle.proof_documents.specs.declared.refusal.DocRefusal.TheVariants.{Line}
use Rattle.proof_documents.proofs.Reading.{one_answer}
use Rattle.proof_documents.proofs.Walking.{walked_more, walked_few, refused_here, ended_early, all_read}
use Rattle.proof_documents.proofs.text.read_document_text.Goals.{then-ne-via-then-ne, then-ne-via-else-ne+then-not-is_empty}
use Rattle.proof_documents.proofs.text.read_document_text.Goals as goal

pub returns-in-Err-NoMatch-clause-answer : goal.returns-in-Err-NoMatch-clause-answer
returns-in-Err-NoMatch-clause-answer c =
    refused_here c.args.bytes.now c.lines.rest.now c.in-Some.text.now c.in-Some.later.now c.lines.draft c.lines.line c.lines.invariant c.in-Some.ensures.parts c.in-Some.ensures.plain (rw c.in-Err-NoMatch.field-0-is at c.in-Err-NoMatch.ensures.err)

pub returns-in-Err-NoMatch-clause-only : goal.returns-in-Err-NoMatch-clause-only
returns-in-Err-NoMatch-clause-only c = λ other. one_answer c.args.bytes.now (Err (Line c.lines.line)) other (returns-in-Err-NoMatch-clause-answer c)

pub overflow_add-line : goal.overflow_add-line
overflow_add-line c = omega (arith, c.lines.invariant.count, walked_few c.args.bytes.now c.lines.rest.now c.lines.draft c.lines.line c.lines.invariant)

pub lines-preserved : goal.lines-preserved
lines-preserved c =
    walked_more c.args.bytes.now c.lines.rest.now c.in-Some.text.now c.in-Some.later.now c.lines.draft c.take.new.self c.lines.line c.lines.invariant c.in-Some.ensures.parts c.in-Some.ensures.plain c.in-Ok.ensures.ok

pub returns-then-ne-clause-answer : goal.returns-then-ne-clause-answer
returns-then-ne-clause-answer c =
    ended_early c.args.bytes.now c.lines.rest.now c.lines.draft c.lines.line c.lines.invariant c.in_default.ensures.none
    (elim c.then-ne.branch [
      | then-ne-via-then-ne w ↦ inl (search rules)
      | then-ne-via-else-ne+then-not-is_empty w ↦ inr (search rules)
    ])

pub returns-then-ne-clause-only : goal.returns-then-ne-clause-only
returns-then-ne-clause-only c = λ other. one_answer c.args.bytes.now (Err (Line c.lines.line)) other (returns-then-ne-clause-answer c)

pub into_document-requires : goal.into_document-requires
into_document-requires c = omega (arith, c.lines.invariant.few, walked_few c.args.bytes.now c.lines.rest.now c.lines.draft c.lines.line c.lines.invariant)

pub returns-clause-answer : goal.returns-clause-answer
returns-clause-answer c = rw c.into_document.ensures (all_read c.args.bytes.now c.lines.rest.now c.lines.draft c.lines.line c.lines.invariant (search rules) (search rules))

pub returns-clause-only : goal.returns-clause-only
returns-clause-only c = λ other. one_answer c.args.bytes.now (Ok c.into_document.result) other (returns-clause-answer c)
