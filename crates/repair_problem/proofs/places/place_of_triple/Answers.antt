use Rattle.rdf_terms.specs.Graph.{triples}
use Rattle.repair_problem.proofs.CandidateLaws.{place_is, place_within}
use Rattle.repair_problem.proofs.places.place_of_triple.Goals as goal

pub returns-clause-value : goal.returns-clause-value
returns-clause-value c = place_is c.args.graph.now c.args.triple.now c.index_of.result c.index_of.ensures.some c.index_of.ensures.none

pub returns-clause-within : goal.returns-clause-within
returns-clause-within c = place_within (triples c.args.graph.now) c.args.triple.now c.index_of.result c.index_of.ensures.some
