use Rattle.std.proofs.Common.{◌≡◌, ◌+◌, ◌-◌, ℕ, Ok, length, arith, rules}
use Rattle.std.specs.Str.{IsUtf8}
use Rattle.std.proofs.lemmas.Result.{err_from_is_err_and}
use Rattle.turtle_io.proofs.Going.{Opened, opened, document_text, refused_answer, answer_err}
use Rattle.turtle_io.proofs.LawfulDocuments.{answer_lawful, answer_scope}
use Rattle.turtle_io.proofs.OnlyAnswer.{only}
use Rattle.turtle_io.proofs.document.read_turtle.Goals as goal

pub returns-in_err-out-clause-answer : goal.returns-in_err-out-clause-answer
returns-in_err-out-clause-answer c =
    let text = c.utf8_front-at_end.result.0.now in
    let at_end = c.utf8_front-at_end.result.1 in
    let rest = c.skip_filling-rest.result.now in
    let at : ℕ = length text - length rest in
    let u : IsUtf8 rest = search rules in
    let n : at + length rest ≡ length text = omega (arith, c.skip_filling-rest.ensures.shorter) in
    let o = opened c.args.bytes.now text rest at at_end c.utf8_front-at_end.ensures u c.skip_filling-rest.ensures.skips n in
    let p = err_from_is_err_and c.from_residual.result c.from_residual.ensures.1 in
    let a = answer_err c.args.bytes.now c.args.role c.from_residual.result c.in_err-out.field-0.0 p.0 p.1 p.2 (refused_answer c.args.bytes.now text rest at at_end c.args.role c.in_err-out.field-0.0 o c.in_err-out.ensures) in
    a

pub returns-in_err-out-clause-only : goal.returns-in_err-out-clause-only
returns-in_err-out-clause-only c =
    let text = c.utf8_front-at_end.result.0.now in
    let at_end = c.utf8_front-at_end.result.1 in
    let rest = c.skip_filling-rest.result.now in
    let at : ℕ = length text - length rest in
    let u : IsUtf8 rest = search rules in
    let n : at + length rest ≡ length text = omega (arith, c.skip_filling-rest.ensures.shorter) in
    let o = opened c.args.bytes.now text rest at at_end c.utf8_front-at_end.ensures u c.skip_filling-rest.ensures.skips n in
    let p = err_from_is_err_and c.from_residual.result c.from_residual.ensures.1 in
    let a = answer_err c.args.bytes.now c.args.role c.from_residual.result c.in_err-out.field-0.0 p.0 p.1 p.2 (refused_answer c.args.bytes.now text rest at at_end c.args.role c.in_err-out.field-0.0 o c.in_err-out.ensures) in
    only c.args.bytes.now c.args.role c.from_residual.result a

pub returns-clause-answer : goal.returns-clause-answer
returns-clause-answer c =
    let text = c.utf8_front-at_end.result.0.now in
    let at_end = c.utf8_front-at_end.result.1 in
    let rest = c.skip_filling-rest.result.now in
    let at : ℕ = length text - length rest in
    let u : IsUtf8 rest = search rules in
    let n : at + length rest ≡ length text = omega (arith, c.skip_filling-rest.ensures.shorter) in
    let o = opened c.args.bytes.now text rest at at_end c.utf8_front-at_end.ensures u c.skip_filling-rest.ensures.skips n in
    let a = document_text c.args.bytes.now text rest at at_end c.args.role c.in_ok-out.out c.in_ok-from_triples.field-0 o c.in_ok-out.ensures c.in_ok-from_triples.ensures.value in
    a

pub returns-clause-only : goal.returns-clause-only
returns-clause-only c =
    let text = c.utf8_front-at_end.result.0.now in
    let at_end = c.utf8_front-at_end.result.1 in
    let rest = c.skip_filling-rest.result.now in
    let at : ℕ = length text - length rest in
    let u : IsUtf8 rest = search rules in
    let n : at + length rest ≡ length text = omega (arith, c.skip_filling-rest.ensures.shorter) in
    let o = opened c.args.bytes.now text rest at at_end c.utf8_front-at_end.ensures u c.skip_filling-rest.ensures.skips n in
    let a = document_text c.args.bytes.now text rest at at_end c.args.role c.in_ok-out.out c.in_ok-from_triples.field-0 o c.in_ok-out.ensures c.in_ok-from_triples.ensures.value in
    only c.args.bytes.now c.args.role (Ok c.in_ok-from_triples.field-0) a

pub returns-clause-lawful : goal.returns-clause-lawful
returns-clause-lawful c = answer_lawful c.args.bytes.now c.args.role (Ok c.in_ok-from_triples.field-0) (returns-clause-answer c)

pub returns-clause-scope : goal.returns-clause-scope
returns-clause-scope c = answer_scope c.args.bytes.now c.args.role (Ok c.in_ok-from_triples.field-0) (returns-clause-answer c)
