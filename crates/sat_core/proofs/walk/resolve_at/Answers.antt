use Rattle.literal_signs.specs.Marked.{marked_set}
use Rattle.clause_store.proofs.Sets.{within_get}
use Rattle.sat_core.proofs.Entries.{place_within}
use Rattle.sat_core.proofs.Back.{reason_here, walk_resolved, reason_resolves}
use Rattle.sat_core.proofs.walk.resolve_at.Goals as goal

pub clause-requires : goal.clause-requires
clause-requires g c =
    let r = c.requires.entry in
    let w = reason_here (g.S.ClauseStore.clauses c.args.store.now) c.args.trail.now c.args.starts.now c.args.at c.args.reason r.0 c.requires.trail r.1 r.2 in
    place_within (g.S.ClauseStore.clauses c.args.store.now) c.args.reason w.0 w.1

pub resolve-requires-clause-below : goal.resolve-requires-clause-below
resolve-requires-clause-below g c = within_get _ (g.S.ClauseStore.clauses c.args.store.now) c.args.reason c.clause.result.now c.requires.below c.clause.ensures.here

pub returns-clause-walking : goal.returns-clause-walking
returns-clause-walking g c =
    let cs = g.S.ClauseStore.clauses c.args.store.now in
    let r = c.requires.entry in
    let yes = reason_resolves cs c.args.trail.now c.args.starts.now c.args.at c.args.reason r.0 c.clause.result.now c.args.ids.now.items (marked_set c.args.signs.now) c.resolve.result c.requires.trail r.1 r.2 c.clause.ensures.here r.3 c.requires.walking c.resolve.ensures.no in
    let s = c.resolve.ensures.yes yes in
    rw c.in_ok-push.ensures.items
    (walk_resolved cs c.args.trail.now c.args.starts.now c.args.at c.args.reason r.0 c.clause.result.now c.args.ids.now.items (marked_set c.args.signs.now) (marked_set c.resolve.new.signs) s.0 c.requires.trail r.1 r.2 c.clause.ensures.here c.clause.ensures.once r.3 s.1 s.2 c.requires.walking)
