use Rattle.std.proofs.lemmas.Result.{err_from_is_err_and}
use Rattle.literal_signs.proofs.Listed.{lits_within}
use Rattle.refute_check.proofs.gather.gather.Goals as goal

pub take_lits-requires-clause-within : goal.take_lits-requires-clause-within
take_lits-requires-clause-within g c =
    rw (c.resolve_all.ensures.length, c.requires.listed) (lits_within _ (g.S.ClauseStore.clauses c.args.store.now) c.args.ids.now c.requires.reserved)

pub take_lits-requires-clause-covered : goal.take_lits-requires-clause-covered
take_lits-requires-clause-covered g c = rw c.requires.listed c.resolve_all.ensures.covered

pub returns-in_err-resolve_all-clause-covered : goal.returns-in_err-resolve_all-clause-covered
returns-in_err-resolve_all-clause-covered g c = rw c.requires.listed c.resolve_all.ensures.covered

pub returns-in_err-take_lits-clause-err : goal.returns-in_err-take_lits-clause-err
returns-in_err-take_lits-clause-err g c =
    let p = err_from_is_err_and c.from_residual-in_err-take_lits.result c.from_residual-in_err-take_lits.ensures.1 in rw (p.1, p.2) tt
