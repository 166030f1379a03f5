use Rattle.std.proofs.Common.{ap, ◌∙◌}
use Rattle.rdf_terms.specs.Graph.{edited}
use Rattle.rdf_terms.specs.Nodes.{nodes_of}
use Rattle.repair_problem.proofs.problem.full_and_nodes.Goals as goal

pub returns-clause-full : goal.returns-clause-full
returns-clause-full c = c.in_ok-full.ensures.value ∙ ap (edited c.args.present.now c.args.offers.now) c.new.ensures

pub returns-clause-nodes : goal.returns-clause-nodes
returns-clause-nodes c = c.in_ok-nodes.ensures.value ∙ ap (nodes_of c.args.present.now c.args.offers.now) (c.as_slice.ensures ∙ c.in_ok-named.ensures)
