use Rattle.std.proofs.Common.{slice_index, ℕ, ◌<◌, ◌≤◌, All}
use Rattle.digraph.specs.Digraph.{targets_at}
use Rattle.digraph.proofs.circles.never_rise.Given as goal

abbrev pub invariant-checking : goal.invariant-checking
invariant-checking l = (z : ℕ) → z < l.x → All (λ y. slice_index l.labels y ≤ slice_index l.labels z) (targets_at l.graph z)
