use Rattle.certificates.proofs.Bound.{steps_bound}
use Rattle.certificates.proofs.laws.fresh_proofs_are_bounded.Goals as goal

pub returns : goal.returns
returns c = steps_bound c.args.problem.now
