use Rattle.std.proofs.Common.{◌≡◌, false, map, take}
use Rattle.repair_problem.specs.declared.atom.Atom.TheVariants as atom
use Rattle.path_levels.specs.PathParts.{literal}
use Rattle.atom_parts.proofs.holds.unique_list.Given as goal

abbrev pub invariant-pairs : goal.invariant-pairs
invariant-pairs l = l.list ≡ map (λ p. literal (atom.Twin l.i l.x p.0 p.1) false) (take l.y-index l.y-items)
