use Rattle.certificates.proofs.Answered.{below_test}
use Rattle.certificates.proofs.checker.is_below.Goals as goal

pub returns : goal.returns
returns c = below_test c.args.pair.now c.args.before.now c.in_ok-inside.inside c.in_ok-all.all c.is_first_alone.result c.in_ok-inside.ensures c.in_ok-all.ensures c.is_first_alone.ensures
