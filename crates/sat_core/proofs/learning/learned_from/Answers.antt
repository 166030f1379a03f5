use Rattle.std.proofs.Common.{arith, sym, subst, ap, ◌∙◌, ◌≡◌, length}
use Rattle.clause_store.specs.Clauses.{has, opposite}
use Rattle.literal_signs.specs.Marked.{marked_set}
use Rattle.sat_core.specs.Walked.{IsAsserting}
use Rattle.sat_core.proofs.Entries.{below_known, place_within}
use Rattle.sat_core.proofs.Further.{kept_rest}
use Rattle.sat_core.proofs.Back.{walked_new, walked_chained}
use Rattle.sat_core.proofs.learning.learned_from.Goals as goal

pub returns-clause-chained : goal.returns-clause-chained
returns-clause-chained g c =
    walked_chained (g.S.ClauseStore.clauses c.args.store.now) c.args.trail.now c.args.starts.now c.in_ok-ids.field-0.ids.items c.in_ok-ids.field-0.at c.in_ok-lits.lits.items (marked_set c.in_ok-ids.field-0.signs.items) c.requires.trail c.requires.full c.in_ok-lits.ensures.has c.in_ok-ids.ensures.walked

pub returns-clause-fresh : goal.returns-clause-fresh
returns-clause-fresh g c =
    walked_new (g.S.ClauseStore.clauses c.args.store.now) c.args.trail.now c.args.starts.now c.in_ok-ids.field-0.ids.items c.in_ok-ids.field-0.at c.in_ok-lits.lits.items (marked_set c.in_ok-ids.field-0.signs.items) c.requires.trail c.in_ok-lits.ensures.has c.in_ok-ids.ensures.walked

pub keep_level-keep-requires-clause-below : goal.keep_level-keep-requires-clause-below
keep_level-keep-requires-clause-below g c k e get =
    let len : length c.as_slice.result.now ≡ c.args.vars = ap length c.as_slice.ensures.value ∙ c.in_ok-ids.ensures.length in
    rw len (below_known c.args.vars (g.S.ClauseStore.clauses c.args.store.now) e.lit.var c.requires.below (c.requires.trail.known k e get))

pub returns-clause-rest : goal.returns-clause-rest
returns-clause-rest g c j k lt get =
    let cs = g.S.ClauseStore.clauses c.args.store.now in
    let t = c.args.trail.now in
    let starts = c.args.starts.now in
    let lits = c.in_ok-lits.lits.items in
    let is : has lits ≡ marked_set c.in_ok-ids.field-0.signs.items = c.in_ok-lits.ensures.has in
    let w = c.keep_level-keep.ensures.kept j k lt get in
    let low = place_within starts j k get in
    let a = subst (IsAsserting cs t c.in_ok-ids.field-0.at) (sym is) (c.in_ok-ids.ensures.walked.above (omega (arith, low))) in
    kept_rest cs t starts lits c.in_ok-ids.field-0.at j k w.0 w.1 c.requires.trail a get w.2 w.3 w.4 (ap (λ f. f (opposite w.1.lit)) (is ∙ sym (ap marked_set c.as_slice.ensures.value)) ∙ w.5)
