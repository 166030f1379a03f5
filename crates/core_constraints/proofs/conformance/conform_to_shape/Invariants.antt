use Rattle.std.proofs.Common.{take}
use Rattle.shapes_profile.specs.Logic.{EachOf}
use Rattle.path_eval.specs.Numbered.{terms_at}
use Rattle.core_constraints.specs.Findings.{IsConforming, IsTruthful}
use Rattle.core_constraints.proofs.conformance.conform_to_shape.Given as goal

abbrev pub invariant-nodes : goal.invariant-nodes
invariant-nodes l = IsTruthful l.input l.memo × EachOf (IsConforming l.input l.shape) (terms_at l.input.graph.nodes (take l.node-index l.node-items))
