use Rattle.std.proofs.Common.{◌≡◌, ◌++◌, take}
use Rattle.atom_parts.specs.TaggedNodes.{numbers}
use Rattle.atom_parts.proofs.TagGroups.{pairs_with}
use Rattle.atom_parts.proofs.twins.push_pairs.Given as goal

abbrev pub invariant-others : goal.invariant-others
invariant-others l = l.pairs.items ≡ l.fn.pairs.items ++ pairs_with l.y (numbers (take l.other-index l.others))
