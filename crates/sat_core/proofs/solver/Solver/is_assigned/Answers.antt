use Rattle.std.proofs.Common.{◌≡◌, ◌||◌, true, false, IsTrue, sym, subst, ap, ◌∙◌}
use Rattle.clause_store.specs.Clauses.{mentions}
use Rattle.literal_signs.specs.Marked.{marked_set}
use Rattle.sat_core.specs.Solving.{assigned, is_known, lits_of}
use Rattle.sat_core.proofs.Reserved.{lit, mentions_at, mentions_either}
use Rattle.sat_core.proofs.solver.Solver.is_assigned.Goals as goal

pub returns-clause-value : goal.returns-clause-value
returns-clause-value g c =
    let e = ap marked_set c.as_slice.ensures.value ∙ c.self.invariant.marks in
    let v = c.args.var in
    subst (λ s. c.is_set.result ≡ mentions (assigned s) v) c.self.view_is
    (c.is_set.ensures ∙ ap (λ f. f (lit v true) || f (lit v false)) e ∙ sym (mentions_either (lits_of c.self.inside.trail.items) v))

pub returns-clause-known : goal.returns-clause-known
returns-clause-known g c h =
    let e = ap marked_set c.as_slice.ensures.value ∙ c.self.invariant.marks in
    let v = c.args.var in
    let named : mentions (lits_of c.self.inside.trail.items) v ≡ true =
    mentions_either (lits_of c.self.inside.trail.items) v ∙ sym (c.is_set.ensures ∙ ap (λ f. f (lit v true) || f (lit v false)) e) ∙ h in
    let w = mentions_at c.self.inside.trail.items v named in
    subst (λ s. IsTrue (is_known s.clauses v)) c.self.view_is
    (subst (λ x. IsTrue (is_known (g.S.ClauseStore.clauses c.self.inside.store) x)) w.3 (c.self.invariant.solving.trail.known w.0 w.1 w.2))
