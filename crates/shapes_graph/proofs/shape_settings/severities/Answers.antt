use Rattle.std.proofs.Common.{List, map, ap, ◌∙◌, take_all}
use Rattle.rdf_terms.specs.declared.term.Term.{Term}
use Rattle.shapes_graph.proofs.PlaceLaws.{severity_in, severity_at}
use Rattle.shapes_graph.proofs.shape_settings.severities.Goals as goal

pub returns-clause-at : goal.returns-clause-at
returns-clause-at c =
    let s = c.args.shapes.now in
    severity_at s c.shapes.severities
    (c.shapes.invariant
    ∙ ap (λ (xs : List Term). map (severity_in s) xs) (take_all c.shapes.shape-index c.as_slice-shape-items.result.now c.shapes-test.false ∙ c.as_slice-shape-items.ensures))
