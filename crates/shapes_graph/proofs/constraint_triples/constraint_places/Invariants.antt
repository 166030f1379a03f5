use Rattle.std.proofs.Common.{◌≡◌, take}
use Rattle.std.specs.Prelude.{map, filter_map}
use Rattle.std.specs.List.{enumerate_from}
use Rattle.rdf_terms.specs.Graph.{triples}
use Rattle.rdf_terms.specs.declared.term.Term.{Term}
use Rattle.shapes_graph.specs.Constraints.{place_of}
use Rattle.shapes_graph.proofs.constraint_triples.constraint_places.Given as goal

abbrev pub invariant-shapes : goal.invariant-shapes
invariant-shapes l =
    l.lists ≡ map (λ (x : Term). filter_map (place_of l.shapes x) (enumerate_from 0 (triples l.shapes))) (take l.shape-index l.shape-items)
