use Rattle.std.proofs.Common.{sym, ap, ◌∙◌, ◌++◌, [], get_or}
use Rattle.std.proofs.lemmas.List.{take_all}
use Rattle.literal_signs.specs.Marked.{lits_at}
use Rattle.literal_signs.proofs.Listed.{lits-more}
use Rattle.literal_signs.proofs.touched.list_lits.Goals as goal

pub loop-id-preserved : goal.loop-id-preserved
loop-id-preserved g c =
    c.in_ok-append_lits.ensures
    ∙ ap (λ x. x ++ get_or (g.S.ClauseStore.clauses c.args.store.now) (get_or c.args.ids.now c.loop-id.id-index 0) []) c.loop-id.invariant
    ∙ sym (lits-more (g.S.ClauseStore.clauses c.args.store.now) c.args.ids.now c.loop-id.id-index c.loop-id-test.true)

pub returns : goal.returns
returns g c =
    c.loop-id.invariant ∙ ap (λ xs. lits_at (g.S.ClauseStore.clauses c.args.store.now) xs) (take_all c.loop-id.id-index c.args.ids.now c.loop-id-test.false)
