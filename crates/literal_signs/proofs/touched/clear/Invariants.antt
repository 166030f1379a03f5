use Rattle.std.proofs.Common.{◌≡◌, drop, length}
use Rattle.literal_signs.specs.Marked.{AreListed, marked_set}
use Rattle.literal_signs.proofs.touched.clear.Given as goal

abbrev pub invariant-loop-lit : goal.invariant-loop-lit
invariant-loop-lit l =
    record {
      length : length l.signs ≡ length l.fn.signs;
      rest : AreListed (marked_set l.signs) (drop l.lit-index l.touched);
    }
