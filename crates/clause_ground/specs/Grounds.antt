-- What contracts see of a ground: its premises, and the atoms by their numbers.
use Rattle.std.specs.Prelude.{List}
use Rattle.repair_problem.specs.declared.atom.Atom.{Atom}
use Rattle.clause_ground.specs.declared.premise.Premise.{Premise}
use Rattle.clause_ground.specs.declared.ground.Ground.{Ground}

abbrev pub premises : Ground → List Premise
premises g = g.premises

abbrev pub atoms : Ground → List Atom
atoms g = g.atoms.keys
