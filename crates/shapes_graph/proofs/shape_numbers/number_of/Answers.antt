use Rattle.std.proofs.Common.{ap, ◌∙◌}
use Rattle.rdf_terms.specs.Nodes.{Nodes, terms}
use Rattle.shapes_profile.specs.Shapes.{place_in, shape_number}
use Rattle.shapes_graph.proofs.shape_numbers.number_of.Goals as goal

pub returns : goal.returns
unfolding shape_number
returns c = c.place_in.ensures.value ∙ ap (λ (n : Nodes). place_in (terms n) c.args.shape.now) c.nodes.ensures
