use Rattle.std.proofs.Common.{◌≡◌, ◌-◌, suc, cond, length, false}
use Rattle.digraph.specs.Settling.{known_count}
use Rattle.digraph.proofs.Settled.{IsRight, IsSettled}
use Rattle.digraph.proofs.depth.depths.Given as goal

abbrev pub invariant-passing : goal.invariant-passing
invariant-passing l =
    record {
      size : length l.depths.items ≡ length l.graph;
      before : l.before ≡ known_count l.depths.items;
      right : IsRight l.cap l.graph l.depths.items;
      settled : l.is_open ≡ false → IsSettled l.cap l.graph l.depths.items;
    }

abbrev pub decreases-passing : goal.decreases-passing
decreases-passing l = cond l.is_open (suc (length l.depths.items - known_count l.depths.items)) 0
