use Rattle.ntriples_io.proofs.Steps.{longer}
use Rattle.ntriples_io.specs.Feeding.{progress_of}
use Rattle.ntriples_io.proofs.so_far.LinesSoFar.feed.Goals as goal

pub returns-in-Some-clause-read : goal.returns-in-Some-clause-read
returns-in-Some-clause-read c = λ xs h. longer (progress_of c.args.self.now) c.in-Some.refusal xs c.args.piece.now c.in-Some.is h
