use Rattle.std.proofs.Common.{List, ap, ◌∙◌, ◌++◌, take_all}
use Rattle.std.specs.Prelude.{flat_map}
use Rattle.std.proofs.lemmas.Result.{IfOk-weaker}
use Rattle.rdf_terms.specs.Statement.{Statement}
use Rattle.rdf_terms.specs.Graph.{triples}
use Rattle.rdf_terms.specs.Nodes.{nodes_of_list}
use Rattle.shapes_profile.specs.Shapes.{declared_subjects, shapes_of, shape_nodes}
use Rattle.shapes_profile.proofs.shape_nodes.find_shapes.Goals as goal

pub returns : goal.returns
unfolding shape_nodes
returns c =
    let g = c.args.declarations.now in
    let all = c.triples.invariant ∙ ap (λ (ts : List Statement). declared_subjects g ++ flat_map (shapes_of g) ts) (take_all c.triples.triple-index c.as_slice-triple-items.result.now c.triples-test.false ∙ c.as_slice-triple-items.ensures ∙ ap triples c.graph.ensures) in
    IfOk-weaker c.from_terms.result _ _ (λ n e. e ∙ ap nodes_of_list all) c.from_terms.ensures.value
