use Rattle.std.proofs.Common.{rules, subst, take, length, false}
use Rattle.clause_store.specs.declared.lit.Lit.{Lit}
use Rattle.literal_signs.specs.Marked.{marked_set}
use Rattle.clause_store.proofs.Sets.{has-take}
use Rattle.sat_core.proofs.OpenLits.{IsLeftIn, left_second, below_has}
use Rattle.sat_core.proofs.scanning.scan_clause.Goals as goal

abbrev nobody : Lit
nobody = record { var = 0; positive = false }

pub returns-in-Some : goal.returns-in-Some
returns-in-Some c =
    left_second (marked_set c.args.signs.now) c.args.clause.now c.loop-lit.lit-index nobody c.in-Some.field-0 c.loop-lit-test.true c.requires.once
    (subst (λ o. IsLeftIn (marked_set c.args.signs.now) (take c.loop-lit.lit-index c.args.clause.now) o) c.in-Some.is c.loop-lit.invariant) (search rules)

pub bounds-signs-lit-in-Some-left : goal.bounds-signs-lit-in-Some-left
bounds-signs-lit-in-Some-left c =
    let f = subst (λ o. IsLeftIn (marked_set c.args.signs.now) (take c.loop-lit.lit-index c.args.clause.now) o) c.in-Some-left.is c.loop-lit.invariant in
    below_has (length c.args.signs.now) c.args.clause.now c.in-Some-left.lit c.requires.below (has-take c.args.clause.now c.loop-lit.lit-index c.in-Some-left.lit f.here)
