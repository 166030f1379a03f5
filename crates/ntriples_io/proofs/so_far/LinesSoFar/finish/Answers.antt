use Rattle.std.proofs.Common.{Ok, Err}
use Rattle.std.proofs.lemmas.Result.{err_from_is_err_and}
use Rattle.ntriples_io.proofs.LawfulText.{text_lawful}
use Rattle.ntriples_io.proofs.Once.{one_answer}
use Rattle.ntriples_io.proofs.ScopedText.{text_has_scope}
use Rattle.ntriples_io.proofs.Steps.{opened, read_text, bad_end, refused_answer}
use Rattle.ntriples_io.specs.Feeding.{progress_of}
use Rattle.ntriples_io.proofs.so_far.LinesSoFar.finish.Goals as goal

pub returns-in-Some-clause-only : goal.returns-in-Some-clause-only
returns-in-Some-clause-only c = λ xs h other m. one_answer xs c.args.self.scope (Err c.in-Some.refusal) other (refused_answer (progress_of c.args.self) c.in-Some.refusal xs c.in-Some.is h) m

pub returns-in_err-push_line_triple-clause-answer : goal.returns-in_err-push_line_triple-clause-answer
returns-in_err-push_line_triple-clause-answer c = λ xs h.
    let p = err_from_is_err_and c.from_residual.result c.from_residual.ensures.1 in
    rw (p.1, p.2)
    (bad_end c.in_err-push_line_triple.field-0.0 _ xs _ _ _ _ _ _ c.args.self.triples c.push_line_triple.new.triples (opened (progress_of c.args.self) xs c.in_default.is h) c.deref.ensures.value c.in_err-push_line_triple.ensures)

pub returns-in_err-push_line_triple-clause-only : goal.returns-in_err-push_line_triple-clause-only
returns-in_err-push_line_triple-clause-only c = λ xs h other m.
    let p = err_from_is_err_and c.from_residual.result c.from_residual.ensures.1 in
    rw (p.1, p.2)
    (one_answer xs c.args.self.scope (Err c.in_err-push_line_triple.field-0.0) other
    (bad_end c.in_err-push_line_triple.field-0.0 _ xs _ _ _ _ _ _ c.args.self.triples c.push_line_triple.new.triples (opened (progress_of c.args.self) xs c.in_default.is h) c.deref.ensures.value c.in_err-push_line_triple.ensures) m)

pub returns-clause-answer : goal.returns-clause-answer
returns-clause-answer c = λ xs h. read_text _ xs _ _ _ _ _ _ _ _ (opened (progress_of c.args.self) xs c.in_default.is h) c.deref.ensures.value c.in_ok-push_line_triple.ensures c.in_ok-graph.ensures.value

pub returns-clause-only : goal.returns-clause-only
returns-clause-only c = λ xs h other m.
    one_answer xs c.args.self.scope (Ok c.in_ok-graph.graph) other (read_text _ xs _ _ _ _ _ _ _ _ (opened (progress_of c.args.self) xs c.in_default.is h) c.deref.ensures.value c.in_ok-push_line_triple.ensures c.in_ok-graph.ensures.value) m

pub returns-clause-lawful : goal.returns-clause-lawful
returns-clause-lawful c = λ xs h.
    text_lawful xs c.args.self.scope c.in_ok-graph.graph (read_text _ xs _ _ _ _ _ _ _ _ (opened (progress_of c.args.self) xs c.in_default.is h) c.deref.ensures.value c.in_ok-push_line_triple.ensures c.in_ok-graph.ensures.value)

pub returns-clause-scope : goal.returns-clause-scope
returns-clause-scope c = λ xs h.
    text_has_scope xs c.args.self.scope c.in_ok-graph.graph (read_text _ xs _ _ _ _ _ _ _ _ (opened (progress_of c.args.self) xs c.in_default.is h) c.deref.ensures.value c.in_ok-push_line_triple.ensures c.in_ok-graph.ensures.value)

pub returns-in-Some-clause-answer : goal.returns-in-Some-clause-answer
returns-in-Some-clause-answer c = λ xs h. refused_answer (progress_of c.args.self) c.in-Some.refusal xs c.in-Some.is h
