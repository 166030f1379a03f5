use Rattle.std.proofs.Common.{◌≡◌, take}
use Rattle.digraph.specs.Settling.{with_depths}
use Rattle.digraph.proofs.depth.settle_all.Given as goal

abbrev pub invariant-settling : goal.invariant-settling
invariant-settling l = l.depths.items ≡ with_depths l.cap l.graph l.fn.depths.items (take l.x-index l.order)
