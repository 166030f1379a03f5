use Rattle.std.proofs.Common.{◌≡◌, ◌++◌, [], ◌∷◌, true, false, take}
use Rattle.atom_parts.specs.PartsTable.{conforming_parts}
use Rattle.atom_parts.proofs.good.qualified_list.Given as goal

abbrev pub invariant-siblings : goal.invariant-siblings
invariant-siblings l = l.list ≡ conforming_parts (l.shape ∷ []) l.node true ++ conforming_parts (take l.sibling-index l.siblings) l.node false
