use Rattle.std.proofs.Common.{◌≡◌, ◌≤◌, min, drop, option_map}
use Rattle.digraph.specs.Depth.{depth_over}
use Rattle.digraph.specs.Digraph.{look}
use Rattle.digraph.proofs.Settled.{depth_joined}
use Rattle.digraph.proofs.depth.join_depths.Given as goal

abbrev pub invariant-joining : goal.invariant-joining
invariant-joining l = (l.depth ≤ l.cap) × (depth_joined l.cap (look l.depths) l.depth (drop l.y-index l.successors) ≡ option_map (min l.cap) (depth_over (look l.depths) l.successors))
