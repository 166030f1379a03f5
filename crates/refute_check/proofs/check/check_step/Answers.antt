use Rattle.std.proofs.Common.{rules, ◌≡◌, true}
use Rattle.std.proofs.lemmas.Result.{err_from_is_err_and}
use Rattle.clause_store.specs.Clauses.{is_within}
use Rattle.clause_store.proofs.Sets.{are_within-push}
use Rattle.refute_check.proofs.check.check_step.Goals as goal

pub returns-in_err-push-clause-err : goal.returns-in_err-push-clause-err
returns-in_err-push-clause-err g c =
    let p = err_from_is_err_and c.from_residual-in_err-push.result c.from_residual-in_err-push.ensures.1 in rw (p.1, p.2) tt

pub returns-in_err-push-clause-reserved : goal.returns-in_err-push-clause-reserved
returns-in_err-push-clause-reserved g c = rw c.in_err-push.ensures.err c.requires.reserved

pub returns-clause-reserved : goal.returns-clause-reserved
returns-clause-reserved g c =
    let below : is_within c.args.marks.now c.as_slice.result.now ≡ true = search rules in
    rw c.in_ok-push.ensures.added (are_within-push c.args.marks.now (g.S.ClauseStore.clauses c.args.store.now) c.as_slice.result.now c.requires.reserved below)
