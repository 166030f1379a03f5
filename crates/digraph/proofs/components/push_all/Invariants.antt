use Rattle.digraph.specs.Settling.{Covers}
use Rattle.digraph.proofs.components.push_all.Given as goal

abbrev pub invariant-pushing : goal.invariant-pushing
invariant-pushing l = Covers l.order.items l.x
