use Rattle.std.proofs.Common.{arith}
use Rattle.std.proofs.lemmas.Grind.{common_steps}
use Rattle.std.proofs.lemmas.List.{take_more}
use Rattle.digraph.proofs.Searched.{with_marks-push}
use Rattle.digraph.proofs.reach.Found.mark_all.Goals as goal

pub marking-preserved : goal.marking-preserved
marking-preserved c = grind (arith, common_steps, with_marks-push, take_more)
