use Rattle.std.proofs.Common.{◌++◌, ◌∷◌, [], ◌∙◌, arith, ap, length, length-append}
use Rattle.std.proofs.lemmas.Result.{err_from_is_err_and}
use Rattle.ntriples_io.proofs.Steps.{closed, step_parts, step_read, run_refused, break_refused}
use Rattle.ntriples_io.specs.Feeding.{progress_of}
use Rattle.ntriples_io.proofs.so_far.LinesSoFar.take.Goals as goal

pub returns-in_err-extend_line-clause-read : goal.returns-in_err-extend_line-clause-read
returns-in_err-extend_line-clause-read c = λ xs h.
    let p = err_from_is_err_and c.from_residual-in_err-extend_line.result c.from_residual-in_err-extend_line.ensures.1 in
    rw (p.1, p.2)
    (run_refused c.in_err-extend_line.field-0.0 _ xs c.args.piece.now c.lines.invariant.front c.lines.bytes.now c.in-Some.plain.now c.in-Some.after.now c.in-Some.b c.lines.invariant.parts c.in-Some.ensures.parts
    (c.in_err-extend_line.ensures.read (xs ++ c.lines.invariant.front) (c.lines.invariant.read xs h)))

pub returns-in_err-end_line-clause-read : goal.returns-in_err-end_line-clause-read
returns-in_err-end_line-clause-read c = λ xs h.
    let p = err_from_is_err_and c.from_residual-in_err-end_line.result c.from_residual-in_err-end_line.ensures.1 in
    let before = closed (progress_of c.extend_line.new.self) _ c.extend_line.ensures.open (c.in_ok-extend_line.ensures.read (xs ++ c.lines.invariant.front) (c.lines.invariant.read xs h)) in
    rw (p.1, p.2)
    (break_refused c.in_err-end_line.field-0.0 _ xs c.args.piece.now c.lines.invariant.front c.lines.bytes.now c.in-Some.plain.now c.in-Some.after.now c.in-Some.b c.lines.invariant.parts c.in-Some.ensures.parts
    (c.in_err-end_line.ensures.read ((xs ++ c.lines.invariant.front) ++ c.in-Some.plain.now) before))

pub lines-preserved : goal.lines-preserved
lines-preserved c = record {
  front = (c.lines.invariant.front ++ c.in-Some.plain.now) ++ c.in-Some.b ∷ [];
  parts = step_parts c.args.piece.now c.lines.invariant.front c.lines.bytes.now c.in-Some.plain.now c.in-Some.after.now c.in-Some.b c.lines.invariant.parts c.in-Some.ensures.parts;
  read = λ xs h.
      let before = closed (progress_of c.extend_line.new.self) _ c.extend_line.ensures.open (c.in_ok-extend_line.ensures.read (xs ++ c.lines.invariant.front) (c.lines.invariant.read xs h)) in
      step_read (progress_of c.end_line.new.self) xs c.lines.invariant.front c.in-Some.plain.now c.in-Some.b c.end_line.ensures.open (c.in_ok-end_line.ensures.read ((xs ++ c.lines.invariant.front) ++ c.in-Some.plain.now) before);
  open_yet = c.end_line.ensures.open;
  scope = c.end_line.ensures.scope ∙ c.extend_line.ensures.scope ∙ c.lines.invariant.scope;
  count = omega (arith, c.in_ok-end_line.ensures.taken, c.in_ok-extend_line.ensures.taken, c.lines.invariant.count, ap length c.in-Some.ensures.parts, length-append c.in-Some.plain.now (c.in-Some.b ∷ c.in-Some.after.now));
}

pub returns-in_err-extend_line-clause-bound : goal.returns-in_err-extend_line-clause-bound
returns-in_err-extend_line-clause-bound c =
    omega (arith, c.extend_line.ensures.bound, c.lines.invariant.count, ap length c.in-Some.ensures.parts, length-append c.in-Some.plain.now (c.in-Some.b ∷ c.in-Some.after.now))

pub returns-in_err-end_line-clause-bound : goal.returns-in_err-end_line-clause-bound
returns-in_err-end_line-clause-bound c =
    omega (arith, c.end_line.ensures.bound, c.in_ok-extend_line.ensures.taken, c.lines.invariant.count, ap length c.in-Some.ensures.parts, length-append c.in-Some.plain.now (c.in-Some.b ∷ c.in-Some.after.now))
