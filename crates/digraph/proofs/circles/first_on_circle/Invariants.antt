use Rattle.std.proofs.Common.{ℕ, ◌<◌}
use Rattle.digraph.specs.Reach.{IsOnCircle}
use Rattle.digraph.specs.Digraph.{successors_at}
use Rattle.digraph.proofs.circles.first_on_circle.Given as goal

abbrev pub invariant-seeking : goal.invariant-seeking
invariant-seeking l = (y : ℕ) → y < l.x → ¬ (IsOnCircle (successors_at l.graph) y)
