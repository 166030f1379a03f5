use Rattle.std.proofs.Common.{sym}
use Rattle.rdf_terms.proofs.GraphLaws.{triples_is}
use Rattle.rdf_terms.specs.TermOrder.{statement_cmp_total, statement_cmp-IsAntisymmetric}
use Rattle.rdf_terms.proofs.Sets.{has_none}
use Rattle.rdf_terms.proofs.Membership.{has_at}
use Rattle.rdf_terms.proofs.graph.Graph.contains.Goals as goal

pub returns-in-Err-clause-value : goal.returns-in-Err-clause-value
returns-in-Err-clause-value c = sym (has_none statement_cmp_total statement_cmp-IsAntisymmetric c.args.self.now c.args.triple.now c.in-Err.field-0 c.in-Err.ensures.absent)

pub returns-in-Ok-clause-value : goal.returns-in-Ok-clause-value
returns-in-Ok-clause-value c = sym (has_at statement_cmp_total statement_cmp-IsAntisymmetric c.args.self.now c.args.triple.now c.in-Ok.field-0 c.in-Ok.ensures.found)

pub returns-in-Err-clause-listed : goal.returns-in-Err-clause-listed
returns-in-Err-clause-listed c = triples_is c.args.self.now

pub returns-in-Ok-clause-listed : goal.returns-in-Ok-clause-listed
returns-in-Ok-clause-listed c = triples_is c.args.self.now
