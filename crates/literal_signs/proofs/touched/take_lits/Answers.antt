use Rattle.std.proofs.Common.{rules, sym, subst, length, ltb-true, false}
use Rattle.clause_store.specs.declared.lit.Lit.{Lit}
use Rattle.clause_store.proofs.Sets.{within-at}
use Rattle.literal_signs.specs.Marked.{AreListed, marked_set}
use Rattle.literal_signs.proofs.Moving.{moved_none, moved_more, moved_all, moved_listed}
use Rattle.literal_signs.proofs.touched.take_lits.Goals as goal

abbrev nobody : Lit
nobody = record { var = 0; positive = false }

pub loop-lit-init : goal.loop-lit-init
loop-lit-init c = moved_none c.args.signs.now c.args.touched.now _ (search rules) c.requires.covered

pub move_lit-requires : goal.move_lit-requires
move_lit-requires c =
    rw c.loop-lit.invariant.same_length (ltb-true _ _ (within-at (length c.args.signs.now) c.args.touched.now c.loop-lit.lit-index nobody c.loop-lit-test.true c.requires.within))

pub returns-in_err-move_lit-clause-covered : goal.returns-in_err-move_lit-clause-covered
returns-in_err-move_lit-clause-covered c =
    subst (λ s. AreListed (marked_set s) c.args.touched.now) (sym c.in_err-move_lit.ensures.err)
    (moved_listed c.args.signs.now c.args.touched.now c.loop-lit.lit-index c.loop-lit.signs c.loop-lit.lits.items c.loop-lit.invariant)

pub loop-lit-preserved : goal.loop-lit-preserved
loop-lit-preserved c =
    moved_more c.args.signs.now c.args.touched.now c.loop-lit.lit-index nobody c.loop-lit.signs c.move_lit.new.signs c.loop-lit.lits.items c.move_lit.new.lits.items c.loop-lit-test.true
    (ltb-true _ _ (within-at (length c.args.signs.now) c.args.touched.now c.loop-lit.lit-index nobody c.loop-lit-test.true c.requires.within))
    c.loop-lit.invariant c.move_lit.ensures.length c.in_ok-move_lit.ensures.ok

pub returns-clause-lits : goal.returns-clause-lits
returns-clause-lits c = moved_all c.args.signs.now c.args.touched.now c.loop-lit.lit-index c.loop-lit.signs c.loop-lit.lits.items c.loop-lit-test.false c.loop-lit.invariant

pub returns-clause-covered : goal.returns-clause-covered
returns-clause-covered c = moved_listed c.args.signs.now c.args.touched.now c.loop-lit.lit-index c.loop-lit.signs c.loop-lit.lits.items c.loop-lit.invariant
