use Rattle.std.proofs.Common.{◌≡◌, ◌++◌, map, take, drop}
use Rattle.rdf_terms.specs.ObjectOrder.{moved_place}
use Rattle.rdf_terms.proofs.graph.move_places.Given as goal

abbrev pub invariant-moving : goal.invariant-moving
invariant-moving l = l.places ≡ map (moved_place l.from) (take l.place-index l.initial.places) ++ drop l.place-index l.initial.places
