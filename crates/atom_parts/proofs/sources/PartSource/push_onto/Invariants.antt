use Rattle.std.proofs.Common.{◌≡◌, ◌++◌, take}
use Rattle.atom_parts.specs.Sources.{source_list}
use Rattle.atom_parts.proofs.sources.PartSource.push_onto.Given as goal

abbrev pub invariant-places : goal.invariant-places
invariant-places l = l.list ≡ l.fn.list ++ take l.place (source_list l.self)
