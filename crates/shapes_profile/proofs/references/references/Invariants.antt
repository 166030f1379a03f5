use Rattle.std.proofs.Common.{◌≡◌, take}
use Rattle.std.specs.Prelude.{flat_map}
use Rattle.shapes_profile.specs.References.{references_of_row}
use Rattle.shapes_profile.proofs.references.references.Given as goal

abbrev pub invariant-rows : goal.invariant-rows
invariant-rows l = l.terms ≡ flat_map (references_of_row l.declarations l.shape) (take l.row-index l.row-items)
