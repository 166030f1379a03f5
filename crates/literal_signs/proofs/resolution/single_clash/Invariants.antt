use Rattle.std.proofs.Common.{take}
use Rattle.literal_signs.specs.Marked.{marked_set}
use Rattle.literal_signs.proofs.Found.{FoundIn}
use Rattle.literal_signs.proofs.resolution.single_clash.Given as goal

abbrev pub invariant-loop-lit : goal.invariant-loop-lit
invariant-loop-lit l = FoundIn (marked_set l.signs) (take l.lit-index l.clause) l.found
