use Rattle.rdf_terms.specs.Graph.{of_list}
use Rattle.certificates.proofs.Answered.{claimed_result, not_claimed_result, pair_candidates}
use Rattle.certificates.proofs.check.fits_pair.Goals as goal

pub is_pair_of-requires : goal.is_pair_of-requires
is_pair_of-requires c = pair_candidates c.args.problem.now c.args.chain.now c.in-Some.pair.now c.requires c.in-Some.ensures.value

pub returns-in-Some : goal.returns-in-Some
returns-in-Some c = claimed_result c.args.problem.now (of_list c.args.text.now.adds) (of_list c.args.text.now.deletes) c.args.chain.now c.in-Some.pair.now c.is_pair_of.result c.in-Some.ensures.value c.is_pair_of.ensures

pub returns-in-None : goal.returns-in-None
returns-in-None c = not_claimed_result c.args.problem.now (of_list c.args.text.now.adds) (of_list c.args.text.now.deletes) c.args.chain.now c.in-None.ensures.value
