use Rattle.std.proofs.Common.{◌≡◌, take}
use Rattle.std.specs.Prelude.{map}
use Rattle.shapes_graph.specs.Constraints.{constraint_of}
use Rattle.shapes_graph.proofs.constraint_triples.read_constraints.Given as goal

abbrev pub invariant-triples : goal.invariant-triples
invariant-triples l = l.constraints ≡ map (constraint_of l.shapes) (take l.triple-index l.triple-items)
