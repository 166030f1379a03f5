use Rattle.std.proofs.Common.{◌↔◌, ℕ, take, Contains}
use Rattle.path_eval.proofs.visits.found_nodes.Given as goal

abbrev pub invariant-visits : goal.invariant-visits
invariant-visits l = (i : ℕ) → Contains l.nodes.items i ↔ Contains (take l.visit-index l.visits) (record { state = 0; node = i })
