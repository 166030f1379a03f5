use Rattle.std.proofs.Common.{sym, ap, ◌∙◌, ◌++◌, ◌≤◌, [], length, rules}
use Rattle.std.proofs.lemmas.List.{append-nil, get_or_past}
use Rattle.std.proofs.lemmas.Option.{get_or_from_slice_get}
use Rattle.literal_signs.proofs.touched.append_lits.Goals as goal

pub returns-then-place-len : goal.returns-then-place-len
returns-then-place-len g c =
    let past : length (g.S.ClauseStore.clauses c.args.store.now) ≤ c.args.place = search rules in
    sym (ap (λ x. c.args.lits.now.items ++ x) (get_or_past (g.S.ClauseStore.clauses c.args.store.now) c.args.place [] past) ∙ append-nil c.args.lits.now.items)

pub returns : goal.returns
returns g c =
    c.in_ok-extend_from_slice.ensures.items
    ∙ ap (λ x. c.args.lits.now.items ++ x) (sym (get_or_from_slice_get (g.S.ClauseStore.clauses c.args.store.now) c.args.place c.clause.result.now [] c.clause.ensures.here))
