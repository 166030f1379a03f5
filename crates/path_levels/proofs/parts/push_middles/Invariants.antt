use Rattle.std.proofs.Common.{◌≡◌, ◌++◌, take}
use Rattle.path_levels.specs.PathParts.{middle_parts}
use Rattle.path_levels.proofs.parts.push_middles.Given as goal

abbrev pub invariant-pushing : goal.invariant-pushing
invariant-pushing l = (l.nodes ≡ l.fn.nodes) × (l.list ≡ l.fn.list ++ middle_parts l.fn.nodes l.p l.k l.x l.y (take l.z-index l.between))
