use Rattle.std.proofs.Common.{◌≡◌, ◌≤◌, take}
use Rattle.digraph.specs.Settling.{known_count}
use Rattle.digraph.proofs.depth.count_known.Given as goal

abbrev pub invariant-counting : goal.invariant-counting
invariant-counting l = (l.count ≡ known_count (take l.depth-index l.depths)) × (l.count ≤ l.depth-index)
