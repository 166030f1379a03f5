use Rattle.std.proofs.Common.{arith}
use Rattle.std.proofs.lemmas.Grind.{common_steps}
use Rattle.std.proofs.lemmas.List.{take_more}
use Rattle.digraph.proofs.Settled.{with_depths-push}
use Rattle.digraph.proofs.depth.settle_all.Goals as goal

pub settling-preserved : goal.settling-preserved
settling-preserved c = grind (arith, common_steps, with_depths-push, take_more)
