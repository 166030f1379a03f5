use Rattle.std.proofs.Common.{rules, arith, sym, subst, ap, ◌∙◌, ◌≡◌, ◌≤◌, false, IsTrue, length}
use Rattle.std.specs.List.{list_any}
use Rattle.clause_store.specs.Clauses.{has, mentions, opposite, is_clause}
use Rattle.literal_signs.specs.Marked.{marked_set}
use Rattle.clause_store.proofs.Sets.{within_get}
use Rattle.sat_core.specs.Passed.{AreAllAssigned}
use Rattle.sat_core.specs.Scanned.{AreAssigned}
use Rattle.sat_core.specs.Solving.{assigned, lits_of}
use Rattle.sat_core.proofs.Back.{once_free}
use Rattle.sat_core.proofs.Entries.{known_at, mentions_has, mentions-both, place_within}
use Rattle.sat_core.proofs.solver.Solver.first_open.Goals as goal

pub first_free-requires : goal.first_free-requires
first_free-requires g c =
    record { below = rw c.as_slice.ensures.value (within_get (length c.self.inside.signs.items) (g.S.ClauseStore.clauses c.self.inside.store) c.loop-i.i c.clause.result.now c.self.invariant.below c.clause.ensures.here) }

pub returns-in-Some-clause-known : goal.returns-in-Some-clause-known
returns-in-Some-clause-known g c =
    subst (λ s. IsTrue (list_any (λ k. mentions k c.in-Some.lit.var) s.clauses)) c.self.view_is
    (known_at (g.S.ClauseStore.clauses c.self.inside.store) c.loop-i.i c.in-Some.lit.var c.clause.result.now c.clause.ensures.here (mentions_has c.clause.result.now c.in-Some.lit c.in-Some.ensures.here))

pub returns-in-Some-clause-free : goal.returns-in-Some-clause-free
returns-in-Some-clause-free g c =
    let e = ap marked_set c.as_slice.ensures.value ∙ c.self.invariant.marks in
    subst (λ s. mentions (assigned s) c.in-Some.lit.var ≡ false) c.self.view_is
    (mentions-both (lits_of c.self.inside.trail.items) c.in-Some.lit (sym (ap (λ f. f c.in-Some.lit) e) ∙ c.in-Some.ensures.open_so) (sym (ap (λ f. f (opposite c.in-Some.lit)) e) ∙ c.in-Some.ensures.open_not))

pub returns-clause-none : goal.returns-clause-none
returns-clause-none g c =
    let cs = g.S.ClauseStore.clauses c.self.inside.store in
    let le : length cs ≤ c.loop-i.i = search rules in
    subst AreAllAssigned c.self.view_is (λ i k get. subst (λ f. AreAssigned f (has k)) c.self.invariant.marks (c.loop-i.invariant i k (let w = place_within cs i k get in omega (arith, w, le)) get))

pub returns-clause-once : goal.returns-clause-once
returns-clause-once g c = subst (λ s. IsTrue (is_clause (assigned s))) c.self.view_is (once_free c.self.inside.trail.items c.self.invariant.solving.trail.free)

pub returns-in-Some-clause-once : goal.returns-in-Some-clause-once
returns-in-Some-clause-once g c = subst (λ s. IsTrue (is_clause (assigned s))) c.self.view_is (once_free c.self.inside.trail.items c.self.invariant.solving.trail.free)
