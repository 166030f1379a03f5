use Rattle.std.proofs.Common.{◌≡◌, flat_map, take}
use Rattle.atom_parts.specs.PartsTable.{target_list}
use Rattle.atom_parts.proofs.shape_parts.target_parts.Given as goal

abbrev pub invariant-targets : goal.invariant-targets
invariant-targets l = (l.nodes ≡ l.fn.nodes) × (l.list ≡ flat_map (target_list l.fn.nodes l.x) (take l.target-index l.target-items))
