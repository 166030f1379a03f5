use Rattle.std.proofs.Common.{◌≡◌, map, take}
use Rattle.repair_problem.specs.declared.atom.Atom.TheVariants as atom
use Rattle.path_levels.specs.PathParts.{path_part}
use Rattle.path_levels.proofs.parts.alternative_list.Given as goal

abbrev pub invariant-pushing : goal.invariant-pushing
invariant-pushing l = (l.nodes ≡ l.fn.nodes) × (l.list ≡ map (λ q. path_part l.fn.nodes (atom.Reach q l.x l.y)) (take l.q-index l.members))
