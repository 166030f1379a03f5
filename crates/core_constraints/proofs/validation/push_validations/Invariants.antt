use Rattle.std.proofs.Common.{◌≡◌, take, Contains}
use Rattle.core_constraints.specs.Validations.{Adds}
use Rattle.core_constraints.proofs.validation.push_validations.Given as goal

abbrev pub invariant-nodes : goal.invariant-nodes
invariant-nodes l = Adds l.initial.validations.keys l.validations.keys (λ v. (l.shape ≡ v.shape) × Contains (take l.node-index l.nodes) v.node)
