use Rattle.std.proofs.Common.{rules, refl, length, ltb-true, false}
use Rattle.clause_store.specs.declared.lit.Lit.{Lit}
use Rattle.clause_store.proofs.Sets.{within-at}
use Rattle.literal_signs.proofs.Moving.{cleared_more, cleared_all}
use Rattle.literal_signs.proofs.touched.clear.Goals as goal

abbrev nobody : Lit
nobody = record { var = 0; positive = false }

pub loop-lit-init : goal.loop-lit-init
loop-lit-init c = record { length = refl; rest = c.requires.covered }

pub loop-lit-preserved : goal.loop-lit-preserved
loop-lit-preserved c =
    let within = ltb-true _ _ (within-at (length c.args.signs.now) c.args.touched.now c.loop-lit.lit-index nobody c.loop-lit-test.true c.requires.within) in
    record {
      length = search rules;
      rest = cleared_more c.loop-lit.signs c.args.touched.now c.loop-lit.lit-index nobody c.loop-lit-test.true (rw c.loop-lit.invariant.length within) c.loop-lit.invariant.rest;
    }

pub returns-clause-clear : goal.returns-clause-clear
returns-clause-clear c = cleared_all c.loop-lit.signs c.args.touched.now c.loop-lit.lit-index c.loop-lit-test.false c.loop-lit.invariant.rest
