use Rattle.std.proofs.Common.{◌≡◌, ◌<◌, take, Contains}
use Rattle.path_eval.specs.Visits.{Adds}
use Rattle.path_eval.proofs.visits.add_all.Given as goal

abbrev pub invariant-nodes : goal.invariant-nodes
invariant-nodes l = Adds l.initial.visits.keys l.visits.keys (λ v. (l.state < l.count) × (l.state ≡ v.state) × Contains (take l.node-index l.nodes) v.node)
