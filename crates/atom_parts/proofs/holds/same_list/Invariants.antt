use Rattle.std.proofs.Common.{◌≡◌, ◌++◌, false, map, take}
use Rattle.repair_problem.specs.declared.atom.Atom.TheVariants as atom
use Rattle.path_levels.specs.PathParts.{literal}
use Rattle.atom_parts.specs.PartsTable.{none_marked}
use Rattle.atom_parts.proofs.holds.same_list.Given as goal

abbrev pub invariant-linked : goal.invariant-linked
invariant-linked l = l.list ≡ none_marked l.fn.nodes l.i l.shape l.x ++ map (λ y. literal (atom.Differ l.i l.x y) false) (take l.y-index l.y-items)
