use Rattle.std.proofs.Common.{take}
use Rattle.atom_parts.specs.TaggedNodes.{AreTagged, tag_at}
use Rattle.atom_parts.proofs.twins.tagged_nodes.Given as goal

abbrev pub invariant-values : goal.invariant-values
invariant-values l = AreTagged (tag_at l.problem) (take l.y-index l.values) l.tagged.items
