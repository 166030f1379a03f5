use Rattle.std.proofs.Common.{refl, []}
use Rattle.ntriples_io.specs.Cutting.{cut}
use Rattle.ntriples_io.proofs.so_far.LinesSoFar.new.Goals as goal

pub returns-clause-read : goal.returns-clause-read
unfolding cut
returns-clause-read c = rw (c.new-2.ensures, c.new-3.ensures.items) (record { ended = []; cuts = refl; lines = refl; at_cr = refl; count = refl })
