use Rattle.std.proofs.Common.{sym, ◌∙◌}
use Rattle.std.proofs.lemmas.Result.{err_from_is_err_and}
use Rattle.ntriples_io.proofs.LineForms.{empty_line}
use Rattle.ntriples_io.proofs.Steps.{opened, read_pair, read_break, bad_step}
use Rattle.ntriples_io.specs.Feeding.{progress_of}
use Rattle.ntriples_io.proofs.so_far.LinesSoFar.end_line.Goals as goal

pub returns-then-ends_pair-clause-read : goal.returns-then-ends_pair-clause-read
returns-then-ends_pair-clause-read c = λ xs h.
    rw c.clear.ensures.items (read_pair _ xs _ _ _ _ _ c.args.b (opened (progress_of c.args.self.now) xs c.requires.open h) (sym c.ends_pair.ensures ∙ c.if-ends_pair.true) (empty_line _))

pub returns-in_err-push_line_triple-clause-read : goal.returns-in_err-push_line_triple-clause-read
returns-in_err-push_line_triple-clause-read c = λ xs h.
    let p = err_from_is_err_and c.from_residual.result c.from_residual.ensures.1 in
    rw (p.1, p.2)
    (bad_step c.in_err-push_line_triple.field-0.0 _ xs _ _ _ _ _ _ c.args.self.now.triples c.push_line_triple.new.triples c.args.b (opened (progress_of c.args.self.now) xs c.requires.open h) c.requires.ended (sym c.ends_pair.ensures ∙ c.if-ends_pair.false) c.deref.ensures.value c.in_err-push_line_triple.ensures)

pub returns-clause-read : goal.returns-clause-read
returns-clause-read c = λ xs h.
    let k = c.in_ok-push_line_triple.ensures in
    rw (c.clear-2.ensures.items, k.2)
    (read_break _ xs _ _ _ _ _ c.args.b k.0 (opened (progress_of c.args.self.now) xs c.requires.open h) c.requires.ended (sym c.ends_pair.ensures ∙ c.if-ends_pair.false) (rw c.deref.ensures.value at k.1))
