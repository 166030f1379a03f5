use Rattle.std.proofs.Common.{rules, arith, sym, subst, ap, ◌∙◌, ◌≡◌, length, ◌∷◌, [], true}
use Rattle.clause_store.specs.Clauses.{has, opposite}
use Rattle.clause_store.specs.Chained.{union}
use Rattle.literal_signs.specs.Marked.{marked_set}
use Rattle.clause_store.proofs.Sets.{within_get, never}
use Rattle.sat_core.specs.Assignments.{is_false}
use Rattle.sat_core.specs.Solving.{lits_of}
use Rattle.sat_core.proofs.Pushed.{some_same}
use Rattle.sat_core.proofs.Whole.{whole_back}
use Rattle.sat_core.proofs.Back.{walk_starts}
use Rattle.sat_core.proofs.learning.walk_from.Goals as goal

pub unite-requires-clause-below : goal.unite-requires-clause-below
unite-requires-clause-below g c =
    let e : length c.as_mut_slice.result.now ≡ c.args.vars = search rules in
    rw e (within_get c.args.vars (g.S.ClauseStore.clauses c.args.store.now) c.args.conflict c.clause.result.now c.requires.below c.clause.ensures.here)

pub unite-requires-clause-apart : goal.unite-requires-clause-apart
unite-requires-clause-apart g c m h =
    let e : c.as_mut_slice.result.now ≡ c.in_ok-signs.signs.items = search rules in
    never h.0 (ap (λ f. f (opposite m)) (ap marked_set e ∙ c.in_ok-signs.ensures.nothing))

pub walk_back-requires-clause-walking : goal.walk_back-requires-clause-walking
walk_back-requires-clause-walking g c =
    let cs = g.S.ClauseStore.clauses c.args.store.now in
    let e : c.as_mut_slice.result.now ≡ c.in_ok-signs.signs.items = search rules in
    let l1 = c.unite.ensures.length in
    let l2 = ap length e in
    let count : length c.unite.new.signs ≡ c.in_ok-signs.signs.len = omega (arith, l1, l2, c.in_ok-signs.signs.ok.0) in
    let e2 : c.as_mut_slice-2.result.now ≡ c.unite.new.signs = c.as_mut_slice-2.ensures.value ∙ whole_back c.unite.new.signs c.in_ok-signs.signs.items c.in_ok-signs.signs.len count in
    let one : c.push.new.self.items ≡ c.args.conflict ∷ [] = search rules in
    let cur : has c.clause.result.now ≡ marked_set c.as_mut_slice-2.result.now = sym (ap marked_set e2 ∙ c.unite.ensures.united ∙ ap (λ f. union f (has c.clause.result.now)) (ap marked_set e ∙ c.in_ok-signs.ensures.nothing)) in
    let r = c.requires.conflict in
    rw one (walk_starts cs c.args.trail.now c.args.starts.now c.args.conflict c.clause.result.now _ c.requires.trail c.clause.ensures.here (subst (λ x. is_false (lits_of c.args.trail.now) x ≡ true) (some_same (sym r.1 ∙ c.clause.ensures.here)) r.2) cur)
