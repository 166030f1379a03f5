use Rattle.std.proofs.Common.{sym, ◌∙◌}
use Rattle.ntriples_io.proofs.Steps.{opened, read_run, not_empty}
use Rattle.ntriples_io.specs.Feeding.{progress_of}
use Rattle.ntriples_io.proofs.so_far.LinesSoFar.extend_line.Goals as goal

pub returns-clause-read : goal.returns-clause-read
returns-clause-read c = λ xs h.
    rw c.in_ok-extend_from_slice.ensures.items
    (read_run _ xs c.args.run.now _ _ _ _ _ (opened (progress_of c.args.self.now) xs c.requires.open h) c.requires.plain (not_empty c.args.run.now (sym c.is_empty.ensures ∙ c.if-is_empty.false)))
