use Rattle.std.proofs.Common.{◌≡◌, IsTrue, [], Some, slice_get, sym, subst}
use Rattle.clause_store.specs.Clauses.{is_within}
use Rattle.sat_core.specs.Solving.{HasEmpty}
use Rattle.sat_core.proofs.Cut.{clause_log}
use Rattle.sat_core.proofs.Pushed.{none_some}
use Rattle.sat_core.proofs.Whole.{kept_more}
use Rattle.sat_core.proofs.solver.Solver.push.Goals as goal

pub invariant_of-self-2 : goal.invariant_of-self-2
invariant_of-self-2 g c =
    let cs = g.S.ClauseStore.clauses c.self.inside.store in
    let lits = c.args.lits.now in
    let view = sym c.self.view_is in
    let none : c.self.inside.starts.items ≡ [] = subst (λ s. s.starts ≡ []) view c.requires.level in
    rw c.in_ok-place.ensures.added
    (kept_more cs lits c.self.inside.trail.items c.self.inside.starts.items c.self.inside.steps c.self.inside.steps c.self.inside.signs.items c.self.invariant
    (subst (λ s. ¬ (HasEmpty s.clauses)) view c.requires.full)
    (subst (λ s. IsTrue (is_within s.room lits)) view c.requires.room)
    (λ j k get. absurd (none_some (subst (λ x. slice_get x j ≡ Some k) none get)))
    (clause_log cs lits c.self.inside.steps c.self.invariant.solving.log))
