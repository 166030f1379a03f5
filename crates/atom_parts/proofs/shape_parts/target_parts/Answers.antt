use Rattle.std.proofs.Common.{◌++◌, ap, ◌∙◌}
use Rattle.repair_problem.specs.Setting.{Setting}
use Rattle.atom_parts.specs.PartsTable.{target_list}
use Rattle.atom_parts.proofs.PushedLists.{joined_next}
use Rattle.atom_parts.proofs.shape_parts.target_parts.Goals as goal

pub targets-preserved : goal.targets-preserved
targets-preserved c = (
  c.push_target.ensures.same ∙ c.targets.invariant.0,
  c.in_ok-push_target.ensures.value
      ∙ (ap (λ (t : Setting). c.targets.list ++ target_list t c.args.x c.target-item.result) c.targets.invariant.0
      ∙ joined_next (target_list c.args.nodes.now c.args.x) c.targets.list c.targets_of-target-items.result.now c.targets.target-index c.target-item.result c.targets.invariant.1 c.targets-test.true c.target-item.is),
)
