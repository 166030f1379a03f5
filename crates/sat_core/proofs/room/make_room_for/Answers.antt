use Rattle.std.proofs.Common.{arith, false, ◌∙◌}
use Rattle.clause_store.specs.declared.lit.Lit.{Lit}
use Rattle.sat_core.proofs.Reserved.{within_grows, within_step}
use Rattle.sat_core.proofs.room.make_room_for.Goals as goal

abbrev nobody : Lit
nobody = record { var = 0; positive = false }

pub loop-lit-preserved : goal.loop-lit-preserved
loop-lit-preserved c =
    let one = c.make_room.ensures in
    let before = c.loop-lit.invariant in
    let counted = before.absents in
    let counted_one = one.absents in
    let longer = before.longer in
    let longer_one = one.longer in
    record {
      marked = one.marked ∙ before.marked;
      absents = omega (arith, counted, counted_one);
      longer = omega (arith, longer, longer_one);
      room = within_step _ c.args.lits.now c.loop-lit.lit-index nobody c.loop-lit-test.true
          (within_grows _ _ _ longer_one before.room) c.in_ok-make_room.ensures.room;
    }
