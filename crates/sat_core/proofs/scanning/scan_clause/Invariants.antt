use Rattle.std.proofs.Common.{take}
use Rattle.literal_signs.specs.Marked.{marked_set}
use Rattle.sat_core.proofs.OpenLits.{IsLeftIn}
use Rattle.sat_core.proofs.scanning.scan_clause.Given as goal

abbrev pub invariant-loop-lit : goal.invariant-loop-lit
invariant-loop-lit l = IsLeftIn (marked_set l.signs) (take l.lit-index l.clause) l.left
