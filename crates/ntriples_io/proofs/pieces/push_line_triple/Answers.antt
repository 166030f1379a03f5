use Rattle.std.proofs.Common.{refl}
use Rattle.ntriples_io.proofs.Answering.{is_none}
use Rattle.ntriples_io.proofs.pieces.push_line_triple.Goals as goal

pub returns-in-Err-NoMatch : goal.returns-in-Err-NoMatch
returns-in-Err-NoMatch c = (refl, λ v h. is_none v (rw c.in-Err-NoMatch.field-0-is at (c.in-Err-NoMatch.ensures.only v h)))
