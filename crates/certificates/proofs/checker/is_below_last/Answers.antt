use Rattle.certificates.proofs.Answered.{below_last_result, below_none_result}
use Rattle.certificates.proofs.checker.is_below_last.Goals as goal

pub returns-in-Some : goal.returns-in-Some
returns-in-Some c = below_last_result c.args.chain.now c.args.pair.now c.in-Some.last.now c.as_slice.result.now c.is_below.result c.in-Some.ensures.value c.as_slice.ensures c.is_below.ensures

pub returns-in-None : goal.returns-in-None
returns-in-None c = below_none_result c.args.chain.now c.args.pair.now c.in-None.ensures.value
