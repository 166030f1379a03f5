use Rattle.std.proofs.Common.{rules, length, ltb-true, false}
use Rattle.clause_store.specs.declared.lit.Lit.{Lit}
use Rattle.clause_store.proofs.Sets.{within-at}
use Rattle.literal_signs.proofs.United.{unite_more}
use Rattle.literal_signs.proofs.resolution.unite.Goals as goal

abbrev nobody : Lit
nobody = record { var = 0; positive = false }

pub loop-lit-preserved : goal.loop-lit-preserved
loop-lit-preserved c =
    let within = ltb-true _ _ (within-at (length c.args.signs.now) c.args.clause.now c.loop-lit.lit-index nobody c.loop-lit-test.true c.requires.below) in
    record {
      length = search rules;
      united = rw c.sign_of.ensures (unite_more c.args.signs.now c.loop-lit.signs c.args.clause.now c.loop-lit.lit-index nobody c.loop-lit-test.true (rw c.loop-lit.invariant.length within) c.requires.once c.requires.apart c.loop-lit.invariant.united);
    }
