use Rattle.std.proofs.Common.{List, map, ap, ◌∙◌, take_all}
use Rattle.rdf_terms.specs.declared.term.Term.{Term}
use Rattle.rdf_terms.specs.Vocab.Sh as sh
use Rattle.shapes_profile.specs.Shapes.{has_true_value}
use Rattle.shapes_graph.proofs.PlaceLaws.{deactivated_at}
use Rattle.shapes_graph.proofs.shape_settings.deactivated.Goals as goal

pub returns-clause-at : goal.returns-clause-at
returns-clause-at c =
    let s = c.args.shapes.now in
    deactivated_at s c.shapes.flags
    (c.shapes.invariant
    ∙ ap (λ (xs : List Term). map (λ (x : Term). has_true_value s x sh.deactivated) xs) (take_all c.shapes.shape-index c.as_slice-shape-items.result.now c.shapes-test.false ∙ c.as_slice-shape-items.ensures))
