use Rattle.std.proofs.Common.{ap, ◌∙◌}
use Rattle.rdf_terms.specs.Statement.{Statement}
use Rattle.rdf_terms.specs.Nodes.{has_term}
use Rattle.path_eval.proofs.Found.{found_is}
use Rattle.path_eval.proofs.instances.has_object.Goals as goal

pub returns : goal.returns
returns c =
    c.is_some.ensures ∙ (found_is c.args.nodes.now c.triple.inside.object c.index_of_term.result c.index_of_term.ensures.some c.index_of_term.ensures.none ∙ ap (λ (u : Statement). has_term c.args.nodes.now u.object) c.triple.view_is)
