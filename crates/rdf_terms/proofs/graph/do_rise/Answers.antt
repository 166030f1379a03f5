use Rattle.std.proofs.Common.{arith}
use Rattle.rdf_terms.specs.TermOrder.{statement_cmp_total}
use Rattle.rdf_terms.proofs.Sets.{rising_of_neighbours}
use Rattle.rdf_terms.proofs.graph.do_rise.Goals as goal

pub returns : goal.returns
returns c = λ h. rising_of_neighbours statement_cmp_total c.args.triples.now (λ k d lt. c.neighbours.invariant k d (omega arith))
