use Rattle.core_constraints.proofs.FocusNumbers.{named_more}
use Rattle.core_constraints.proofs.input.push_all_named.Goals as goal

pub targets-preserved : goal.targets-preserved
targets-preserved c =
    named_more c.args.terms.now c.targets.terms c.push_named.new.terms c.args.targets.now c.targets.target-index c.target-item.result c.targets-test.true c.target-item.is c.targets.invariant c.in_ok-push_named.ensures
