use Rattle.count_encode.proofs.Counters.{clauses_fix}
use Rattle.count_encode.proofs.counts.counters_fix.Goals as goal

pub returns : goal.returns
returns c a vs = clauses_fix a c.args._i c.args._x vs c.args._j c.args._m c.args._item c.requires.least c.requires.most
