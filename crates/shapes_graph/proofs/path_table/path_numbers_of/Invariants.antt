use Rattle.std.proofs.Common.{◌≡◌, take}
use Rattle.std.specs.Prelude.{map}
use Rattle.shapes_graph.specs.PathForms.{number_among}
use Rattle.shapes_graph.proofs.path_table.path_numbers_of.Given as goal

abbrev pub invariant-parts : goal.invariant-parts
invariant-parts l = l.numbers ≡ map (number_among l.nodes) (take l.part-index l.parts)
