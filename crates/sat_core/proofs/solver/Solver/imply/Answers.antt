use Rattle.std.proofs.Common.{arith, sym, subst, ◌≡◌, List, Some, length, slice_get}
use Rattle.clause_store.specs.declared.lit.Lit.{Lit}
use Rattle.clause_store.specs.Clauses.{has}
use Rattle.clause_store.proofs.Sets.{within_get}
use Rattle.sat_core.specs.Scanned.{IsUnitUnder}
use Rattle.sat_core.specs.Solving.{assigned, lits_of}
use Rattle.sat_core.proofs.Entries.{below_mentions, mentions_has, marks_more, count_more, same_length, count_within, implied_trail, unit_list}
use Rattle.sat_core.proofs.solver.Solver.imply.Goals as goal

pub index_mut-requires : goal.index_mut-requires
index_mut-requires g c =
    let cs = g.S.ClauseStore.clauses c.self.inside.store in
    let r = subst (λ s. (x : List Lit) × (slice_get s.clauses c.args.reason ≡ Some x) × IsUnitUnder (has (assigned s)) (has x) c.args.lit) (sym c.self.view_is) c.requires in
    let lt = below_mentions (length c.self.inside.signs.items) r.0 c.args.lit.var (within_get (length c.self.inside.signs.items) cs c.args.reason r.0 c.self.invariant.below r.1) (mentions_has r.0 c.args.lit r.2.here) in
    omega (arith, lt, c.self.inside.signs.ok.0)

pub invariant_of-self-2 : goal.invariant_of-self-2
invariant_of-self-2 g c =
    let cs = g.S.ClauseStore.clauses c.self.inside.store in
    let signs = c.self.inside.signs.items in
    let t = c.self.inside.trail.items in
    let r = subst (λ s. (x : List Lit) × (slice_get s.clauses c.args.reason ≡ Some x) × IsUnitUnder (has (assigned s)) (has x) c.args.lit) (sym c.self.view_is) c.requires in
    let unit = unit_list (lits_of t) r.0 c.args.lit r.2 in
    let lt = below_mentions (length signs) r.0 c.args.lit.var (within_get (length signs) cs c.args.reason r.0 c.self.invariant.below r.1) (mentions_has r.0 c.args.lit r.2.here) in
    rw (c.in_ok-push.ensures.items, c.sign_of.ensures)
    (record {
      solving = record {
        trail = implied_trail cs t c.self.inside.starts.items c.args.lit c.args.reason r.0 c.self.invariant.solving.trail r.1 unit;
        log = c.self.invariant.solving.log;
        empty_last = c.self.invariant.solving.empty_last;
      };
      marks = marks_more t signs (record { lit = c.args.lit; reason = Some c.args.reason }) lt c.self.invariant.marks unit.free;
      below = rw (same_length signs c.args.lit.var _) c.self.invariant.below;
      count = count_more t signs (record { lit = c.args.lit; reason = Some c.args.reason }) lt c.self.invariant.marks unit.free c.self.invariant.count;
    })

pub returns-clause-room : goal.returns-clause-room
returns-clause-room g c =
    let r = subst (λ s. (x : List Lit) × (slice_get s.clauses c.args.reason ≡ Some x) × IsUnitUnder (has (assigned s)) (has x) c.args.lit) (sym c.self.view_is) c.requires in
    let signs = c.self.inside.signs.items in
    let t = c.self.inside.trail.items in
    let cs = g.S.ClauseStore.clauses c.self.inside.store in
    let unit = unit_list (lits_of t) r.0 c.args.lit r.2 in
    let lt = below_mentions (length signs) r.0 c.args.lit.var (within_get (length signs) cs c.args.reason r.0 c.self.invariant.below r.1) (mentions_has r.0 c.args.lit r.2.here) in
    rw (c.in_ok-push.ensures.items, c.sign_of.ensures)
    (count_within _ _ (count_more t signs (record { lit = c.args.lit; reason = Some c.args.reason }) lt c.self.invariant.marks unit.free c.self.invariant.count))
