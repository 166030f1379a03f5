use Rattle.std.proofs.Common.{rules, arith, sym, subst, ◌≡◌, length, take}
use Rattle.std.proofs.lemmas.List.{take_all}
use Rattle.clause_store.specs.Chained.{Derives}
use Rattle.literal_signs.specs.Marked.{lits_at, marked_set}
use Rattle.literal_signs.proofs.Listed.{lits_within, begun_listed}
use Rattle.sat_core.proofs.learning.walked_lits.Goals as goal

pub take_lits-requires-clause-within : goal.take_lits-requires-clause-within
take_lits-requires-clause-within g c =
    let listed : c.as_slice-2.result.now ≡ lits_at (g.S.ClauseStore.clauses c.args.store.now) c.args.ids.now.items = search rules in
    let signs : c.as_mut_slice.result.now ≡ c.args.signs.items = search rules in
    rw (listed, signs) (lits_within _ (g.S.ClauseStore.clauses c.args.store.now) c.args.ids.now.items c.requires.below)

pub take_lits-requires-clause-covered : goal.take_lits-requires-clause-covered
take_lits-requires-clause-covered g c =
    let listed : c.as_slice-2.result.now ≡ lits_at (g.S.ClauseStore.clauses c.args.store.now) c.args.ids.now.items = search rules in
    let signs : c.as_mut_slice.result.now ≡ c.args.signs.items = search rules in
    let cs = g.S.ClauseStore.clauses c.args.store.now in
    let ids = c.args.ids.now.items in
    let all : take (length ids) ids ≡ ids = take_all (length ids) ids (omega arith) in
    rw (listed, signs) (begun_listed cs ids (length ids) _ c.requires.some c.requires.some (subst (λ x. Derives cs x (marked_set c.args.signs.items)) (sym all) c.requires.derives))
