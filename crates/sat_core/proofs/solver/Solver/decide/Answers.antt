use Rattle.std.proofs.Common.{rules, arith, sym, refl, subst, ◌≡◌, false, IsTrue, length, None}
use Rattle.std.specs.List.{list_any}
use Rattle.clause_store.specs.Clauses.{mentions}
use Rattle.sat_core.specs.Assignments.{IsAtRest}
use Rattle.sat_core.specs.Solving.{assigned}
use Rattle.sat_core.proofs.Pushed.{decided_trail}
use Rattle.sat_core.proofs.Entries.{below_known, marks_more, count_more, same_length, count_within}
use Rattle.sat_core.proofs.solver.Solver.decide.Goals as goal

pub index_mut-requires : goal.index_mut-requires
index_mut-requires g c =
    let lt = below_known (length c.self.inside.signs.items) (g.S.ClauseStore.clauses c.self.inside.store) c.args.lit.var c.self.invariant.below (subst (λ s. IsTrue (list_any (λ k. mentions k c.args.lit.var) s.clauses)) (sym c.self.view_is) c.requires.known) in
    omega (arith, lt, c.self.inside.signs.ok.0)

pub invariant_of-self-in-Ok : goal.invariant_of-self-in-Ok
invariant_of-self-in-Ok g c =
    let len : c.len-start.result ≡ length c.self.inside.trail.items = search rules in
    let view = sym c.self.view_is in
    let cs = g.S.ClauseStore.clauses c.self.inside.store in
    let signs = c.self.inside.signs.items in
    let t = c.self.inside.trail.items in
    let free = subst (λ s. mentions (assigned s) c.args.lit.var ≡ false) view c.requires.free in
    let known = subst (λ s. IsTrue (list_any (λ k. mentions k c.args.lit.var) s.clauses)) view c.requires.known in
    let lt = below_known (length signs) cs c.args.lit.var c.self.invariant.below known in
    rw (c.in-Ok.ensures.items, c.in_ok-push.ensures.items, len, c.sign_of.ensures)
    (record {
      solving = record {
        trail = decided_trail cs t c.self.inside.starts.items _ c.self.invariant.solving.trail refl free known (subst (λ s. IsAtRest (assigned s) s.clauses) view c.requires.rest);
        log = c.self.invariant.solving.log;
        empty_last = c.self.invariant.solving.empty_last;
      };
      marks = marks_more t signs (record { lit = c.args.lit; reason = None }) lt c.self.invariant.marks free;
      below = rw (same_length signs c.args.lit.var _) c.self.invariant.below;
      count = count_more t signs (record { lit = c.args.lit; reason = None }) lt c.self.invariant.marks free c.self.invariant.count;
    })

pub returns-in-Ok-clause-within : goal.returns-in-Ok-clause-within
returns-in-Ok-clause-within g c =
    let view = sym c.self.view_is in
    let cs = g.S.ClauseStore.clauses c.self.inside.store in
    let signs = c.self.inside.signs.items in
    let t = c.self.inside.trail.items in
    let free = subst (λ s. mentions (assigned s) c.args.lit.var ≡ false) view c.requires.free in
    let known = subst (λ s. IsTrue (list_any (λ k. mentions k c.args.lit.var) s.clauses)) view c.requires.known in
    let lt = below_known (length signs) cs c.args.lit.var c.self.invariant.below known in
    rw (c.in-Ok.ensures.items, c.sign_of.ensures)
    (count_within _ _ (count_more t signs (record { lit = c.args.lit; reason = None }) lt c.self.invariant.marks free c.self.invariant.count))
