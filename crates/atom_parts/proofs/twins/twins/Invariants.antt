use Rattle.std.proofs.Common.{◌≡◌, flat_map, take}
use Rattle.atom_parts.specs.TaggedNodes.{tag_at}
use Rattle.atom_parts.proofs.TagGroups.{pairs_of}
use Rattle.atom_parts.proofs.twins.twins.Given as goal

abbrev pub invariant-values : goal.invariant-values
invariant-values l = l.pairs.items ≡ flat_map (pairs_of (tag_at l.problem) l.values) (take l.y-index l.values)
