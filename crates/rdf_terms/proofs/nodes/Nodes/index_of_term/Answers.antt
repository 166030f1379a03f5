use Rattle.rdf_terms.specs.TermOrder.{term_cmp_total, term_cmp-IsAntisymmetric}
use Rattle.rdf_terms.proofs.Sets.{has_none}
use Rattle.rdf_terms.proofs.nodes.Nodes.index_of_term.Goals as goal

pub returns-in-Err-clause-none : goal.returns-in-Err-clause-none
returns-in-Err-clause-none c = has_none term_cmp_total term_cmp-IsAntisymmetric c.args.self.now c.args.term.now c.in-Err.field-0 c.in-Err.ensures.absent
