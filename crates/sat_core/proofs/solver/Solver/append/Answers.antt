use Rattle.std.proofs.Common.{rules, sym, subst, ap, ◌∙◌, ◌≡◌, ◌≢◌, ℕ, IsTrue, Some, length, slice_get, ◌++◌, ◌∷◌, [], take}
use Rattle.clause_store.specs.Clauses.{is_within}
use Rattle.clause_store.specs.Chained.{IsChained}
use Rattle.sat_core.specs.Assignments.{IsAtRest, IsFresh}
use Rattle.sat_core.specs.Solving.{HasEmpty, lits_of}
use Rattle.sat_core.proofs.Cut.{clause_log, step_log}
use Rattle.sat_core.proofs.Whole.{kept_more}
use Rattle.sat_core.proofs.solver.Solver.append.Goals as goal

pub invariant_of-self-in_err-push : goal.invariant_of-self-in_err-push
invariant_of-self-in_err-push g c =
    let cs = g.S.ClauseStore.clauses c.self.inside.store in
    let lits = c.args.learned.lits.items in
    let view = sym c.self.view_is in
    let added : g.S.ClauseStore.clauses c.push.new.self ≡ cs ++ lits ∷ [] = c.in_ok-place.ensures.added ∙ ap (λ x. cs ++ x ∷ []) c.as_slice-2.ensures.value in
    let same : c.push-2.new.self ≡ c.self.inside.steps = search rules in
    rw (added, same)
    (kept_more cs lits c.self.inside.trail.items c.self.inside.starts.items c.self.inside.steps c.self.inside.steps c.self.inside.signs.items c.self.invariant
    (subst (λ s. ¬ (HasEmpty s.clauses)) view c.requires.full)
    (subst (λ s. IsTrue (is_within s.room lits)) view c.requires.below)
    (subst (λ s. (j k : ℕ) → slice_get s.starts j ≡ Some k → IsAtRest (lits_of (take k s.trail)) (s.clauses ++ lits ∷ [])) view c.requires.rest)
    (clause_log cs lits c.self.inside.steps c.self.invariant.solving.log))

pub invariant_of-self-2 : goal.invariant_of-self-2
invariant_of-self-2 g c =
    let cs = g.S.ClauseStore.clauses c.self.inside.store in
    let lits = c.args.learned.lits.items in
    let view = sym c.self.view_is in
    let added : g.S.ClauseStore.clauses c.push.new.self ≡ cs ++ lits ∷ [] = c.in_ok-place.ensures.added ∙ ap (λ x. cs ++ x ∷ []) c.as_slice-2.ensures.value in
    let log = c.self.inside.steps in
    let ids = c.args.learned.ids.items in
    let pushed : c.push-2.new.self ≡ log ++ record { place = length cs; ids = ids } ∷ [] =
    search rules in
    rw (added, pushed)
    (kept_more cs lits c.self.inside.trail.items c.self.inside.starts.items log _ c.self.inside.signs.items c.self.invariant
    (subst (λ s. ¬ (HasEmpty s.clauses)) view c.requires.full)
    (subst (λ s. IsTrue (is_within s.room lits)) view c.requires.below)
    (subst (λ s. (j k : ℕ) → slice_get s.starts j ≡ Some k → IsAtRest (lits_of (take k s.trail)) (s.clauses ++ lits ∷ [])) view c.requires.rest)
    (step_log cs lits log ids c.self.invariant.solving.log (subst (λ s. IsChained s.clauses ids lits) view c.requires.chained) (subst (λ s. lits ≢ [] → IsFresh s.clauses lits) view c.requires.fresh)))
