use Rattle.std.proofs.Common.{subst, sym, ◌∙◌, take, false}
use Rattle.clause_store.specs.declared.lit.Lit.{Lit}
use Rattle.literal_signs.specs.Marked.{marked_set}
use Rattle.literal_signs.proofs.Found.{FoundIn, found_second}
use Rattle.literal_signs.proofs.resolution.single_clash.Goals as goal

abbrev nobody : Lit
nobody = record { var = 0; positive = false }

pub returns-in-Some-clause-none : goal.returns-in-Some-clause-none
returns-in-Some-clause-none c =
    found_second (marked_set c.args.signs.now) c.args.clause.now c.loop-lit.lit-index nobody c.in-Some.field-0 c.loop-lit-test.true c.requires.once
    (subst (λ o. FoundIn (marked_set c.args.signs.now) (take c.loop-lit.lit-index c.args.clause.now) o) c.in-Some.is c.loop-lit.invariant)
    (sym c.is_marked-clashes.ensures ∙ c.if-clashes.true)
