use Rattle.std.proofs.Common.{◌-◌, length}
use Rattle.digraph.proofs.Searched.{IsSearch}
use Rattle.digraph.proofs.reach.reached.Given as goal

abbrev pub invariant-seeking : goal.invariant-seeking
invariant-seeking l = IsSearch l.graph l.starts l.next l.found

abbrev pub decreases-seeking : goal.decreases-seeking
decreases-seeking l = length l.graph - l.next
