use Rattle.std.proofs.Common.{◌≡◌, take}
use Rattle.std.specs.Prelude.{map}
use Rattle.shapes_profile.specs.Shapes.{shape_number}
use Rattle.shapes_graph.proofs.shape_numbers.numbers_of.Given as goal

abbrev pub invariant-terms : goal.invariant-terms
invariant-terms l = l.numbers ≡ map (shape_number l.shapes) (take l.term-index l.terms)
