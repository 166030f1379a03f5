use Rattle.std.proofs.Common.{List, map, ap, ◌∙◌, take_all}
use Rattle.rdf_terms.specs.Statement.{Statement}
use Rattle.rdf_terms.specs.Graph.{triples}
use Rattle.shapes_graph.specs.Constraints.{constraint_of}
use Rattle.shapes_graph.proofs.PlaceLaws.{constraints_at}
use Rattle.shapes_graph.proofs.constraint_triples.read_constraints.Goals as goal

pub returns-clause-at : goal.returns-clause-at
returns-clause-at c =
    let s = c.args.shapes.now in
    constraints_at s c.triples.constraints
    (c.triples.invariant
    ∙ ap (λ (ts : List Statement). map (constraint_of s) ts) (take_all c.triples.triple-index c.as_slice-triple-items.result.now c.triples-test.false ∙ c.as_slice-triple-items.ensures ∙ ap triples c.graph.ensures))
