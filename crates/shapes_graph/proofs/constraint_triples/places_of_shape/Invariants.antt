use Rattle.std.proofs.Common.{◌≡◌, take}
use Rattle.std.specs.Prelude.{filter_map}
use Rattle.std.specs.List.{enumerate_from}
use Rattle.rdf_terms.specs.Graph.{triples}
use Rattle.shapes_graph.specs.Constraints.{place_of}
use Rattle.shapes_graph.proofs.constraint_triples.places_of_shape.Given as goal

abbrev pub invariant-places : goal.invariant-places
invariant-places l =
    l.places ≡ filter_map (place_of l.shapes l.shape) (take l.place (enumerate_from 0 (triples l.shapes)))
