use Rattle.std.proofs.Common.{rules, ◌≡◌}
use Rattle.std.proofs.lemmas.Result.{err_from_is_err_and}
use Rattle.literal_signs.specs.Marked.{lits_at}
use Rattle.literal_signs.proofs.Listed.{lits_within}
use Rattle.refute_check.proofs.gather.derive.Goals as goal

pub returns-in_err-list_lits-clause-err : goal.returns-in_err-list_lits-clause-err
returns-in_err-list_lits-clause-err g c =
    let p = err_from_is_err_and c.from_residual.result c.from_residual.ensures.1 in rw (p.1, p.2) tt

pub clear-requires-clause-within : goal.clear-requires-clause-within
clear-requires-clause-within g c =
    let listed : c.as_slice-lits.result.now ≡ lits_at (g.S.ClauseStore.clauses c.args.store.now) c.args.ids.now = search rules in
    rw (c.gather-outcome.ensures.length, listed) (lits_within _ (g.S.ClauseStore.clauses c.args.store.now) c.args.ids.now c.requires.reserved)
