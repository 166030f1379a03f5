use Rattle.std.proofs.Common.{arith}
use Rattle.std.proofs.lemmas.Grind.{common_steps}
use Rattle.std.proofs.lemmas.List.{take_more}
use Rattle.digraph.proofs.Settled.{known_count-push}
use Rattle.digraph.proofs.depth.count_known.Goals as goal
use Rattle.digraph.proofs.depth.count_known.Goals.{then-is_some, else-is_some}

pub counting-preserved : goal.counting-preserved
counting-preserved c = elim c.if-is_some.branch [ then-is_some w ↦ grind (arith, common_steps, known_count-push, take_more) | else-is_some w ↦ grind (arith, common_steps, known_count-push, take_more) ]
