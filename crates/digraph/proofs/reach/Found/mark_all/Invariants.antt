use Rattle.std.proofs.Common.{◌≡◌, take}
use Rattle.digraph.specs.Search.{with_marks}
use Rattle.digraph.proofs.reach.Found.mark_all.Given as goal

abbrev pub invariant-marking : goal.invariant-marking
invariant-marking l = l.self ≡ with_marks l.fn.self (take l.y-index l.ys)
