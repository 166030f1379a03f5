use Rattle.std.proofs.Common.{◌≡◌, subst, true, sym}
use Rattle.count_encode.specs.PartTruth.{is_true}
use Rattle.count_encode.proofs.Counters.{clause_holds, if_ok}
use Rattle.count_encode.proofs.counts.count_clause.Goals as goal

pub returns-clause-holds : goal.returns-clause-holds
returns-clause-holds c =
    if_ok _ _ c.clause_parts.result (λ ps e a vs tells here. subst (λ qs. is_true a qs ≡ true) (sym e)
    (clause_holds a c.args.i c.args.x vs c.args.j c.args.m c.args.item c.args.place c.requires.least c.requires.most tells here)) c.clause_parts.ensures
