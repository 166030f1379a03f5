use Rattle.rdf_terms.specs.TermOrder.{statement_cmp_total, statement_cmp-IsAntisymmetric}
use Rattle.rdf_terms.proofs.Sets.{has_none}
use Rattle.rdf_terms.proofs.graph.Graph.index_of.Goals as goal

pub returns-in-Err-clause-none : goal.returns-in-Err-clause-none
returns-in-Err-clause-none c = has_none statement_cmp_total statement_cmp-IsAntisymmetric c.args.self.now c.args.triple.now c.in-Err.field-0 c.in-Err.ensures.absent
