use Rattle.std.proofs.Common.{rules}
use Rattle.rdf_terms.proofs.Ties.{statement_equal}
use Rattle.rdf_terms.proofs.triple.Triple.compare.Goals as goal

pub returns-clause-equal : goal.returns-clause-equal
returns-clause-equal c = statement_equal c.args.self.now c.args.other.now _ (search rules)
