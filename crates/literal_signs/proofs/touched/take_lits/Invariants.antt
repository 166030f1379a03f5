use Rattle.literal_signs.proofs.Moving.{IsMoved}
use Rattle.literal_signs.proofs.touched.take_lits.Given as goal

abbrev pub invariant-loop-lit : goal.invariant-loop-lit
invariant-loop-lit l = IsMoved l.fn.signs l.touched l.lit-index l.signs l.lits.items
