use Rattle.std.proofs.Common.{List, [], ◌∷◌, cond, ap, ◌∙◌, ◌++◌}
use Rattle.std.specs.Prelude.{filter_map}
use Rattle.rdf_terms.specs.Graph.{Graph, triples}
use Rattle.shapes_graph.specs.declared.targets.Target.{Target}
use Rattle.shapes_graph.specs.declared.targets.Target.TheVariants.{Class}
use Rattle.shapes_profile.specs.Shapes.{is_implicit_class}
use Rattle.shapes_graph.specs.Targets.{target_by, targets}
use Rattle.shapes_graph.proofs.shape_targets.targets_of.Goals as goal

pub returns : goal.returns
unfolding targets
returns c =
    let s = c.args.declarations.now in
    let x = c.args.shape.now in
    let own = λ (g : Graph). filter_map (target_by x) (triples g) in
    c.in_ok-push_implicit_class.ensures
    ∙ ap (λ (ts : List Target). ts ++ cond (is_implicit_class s x) (Class x ∷ []) [])
    (c.in_ok-push_targets.ensures ∙ ap (λ (ts : List Target). ts ++ own c.graph.result.now) c.new-targets.ensures ∙ ap own c.graph.ensures)
