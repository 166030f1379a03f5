use Rattle.std.proofs.Common.{rules, sym, subst, ap, ◌∙◌, ◌≡◌, false, true, not, IsTrue}
use Rattle.std.specs.List.{list_any}
use Rattle.clause_store.specs.declared.lit.Lit.{Lit}
use Rattle.clause_store.specs.Clauses.{mentions, opposite}
use Rattle.literal_signs.specs.Marked.{marked_set}
use Rattle.sat_core.specs.Solving.{assigned, lits_of}
use Rattle.sat_core.proofs.Entries.{known_at, mentions-both}
use Rattle.sat_core.proofs.solver.Solver.may_decide.Goals as goal

pub returns-clause-known : goal.returns-clause-known
returns-clause-known g c _ =
    let named : mentions c.clause.result.now c.args.var ≡ true = search rules in
    subst (λ s. IsTrue (list_any (λ k. mentions k c.args.var) s.clauses)) c.self.view_is
    (known_at (g.S.ClauseStore.clauses c.self.inside.store) c.place_of-place.result c.args.var c.clause.result.now c.clause.ensures.here named)

pub returns-clause-free : goal.returns-clause-free
returns-clause-free g c h =
    let e = ap marked_set c.as_slice.ensures.value ∙ c.self.invariant.marks in
    let l : Lit = record { var = c.args.var; positive = true } in
    subst (λ s. mentions (assigned s) l.var ≡ false) c.self.view_is
    (mentions-both (lits_of c.self.inside.trail.items) l (sym (ap (λ f. f l) e) ∙ c.is_open.ensures h l.positive) (sym (ap (λ f. f (opposite l)) e) ∙ c.is_open.ensures h (not l.positive)))
