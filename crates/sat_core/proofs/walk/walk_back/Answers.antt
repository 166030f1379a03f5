use Rattle.std.proofs.Common.{arith, sym, subst, ◌∙◌, ◌≡◌, ◌+◌, ◌-◌, None, length, get_or, false}
use Rattle.literal_signs.specs.Marked.{marked_set}
use Rattle.sat_core.specs.declared.trail.Entry.{Entry}
use Rattle.sat_core.specs.Walked.{IsWalking, IsWalked}
use Rattle.sat_core.proofs.Entries.{below_known, get_some}
use Rattle.sat_core.proofs.Back.{walk_decided, walk_passed, walk_ended}
use Rattle.sat_core.proofs.Further.{walk_alone}
use Rattle.sat_core.proofs.walk.walk_back.Goals as goal

abbrev no_entry : Entry
no_entry = record { lit = record { var = 0; positive = false }; reason = None }

pub returns-in-None-clause-walked : goal.returns-in-None-clause-walked
returns-in-None-clause-walked g c =
    let cs = g.S.ClauseStore.clauses c.args.store.now in
    let t = c.args.trail.now in
    let k = c.loop-at.at - 1 in
    let within = c.loop-at.invariant.within in
    let pos = c.loop-at-test.true in
    let back : c.loop-at.at ≡ c.loop-at.at - 1 + 1 = omega (arith, pos) in
    walk_decided cs t c.args.starts.now k (get_or t k no_entry) c.loop-at.ids.items (marked_set c.loop-at.signs) c.requires.trail (get_some t k no_entry (omega (arith, within, pos))) c.in-None.is
    (subst (λ n. IsWalking cs t c.args.starts.now n c.loop-at.ids.items (marked_set c.loop-at.signs)) back c.loop-at.invariant.walking)

pub slice_copy_out-is_marked : goal.slice_copy_out-is_marked
slice_copy_out-is_marked g c =
    let cs = g.S.ClauseStore.clauses c.args.store.now in
    let t = c.args.trail.now in
    let k = c.loop-at.at - 1 in
    let within = c.loop-at.invariant.within in
    let pos = c.loop-at-test.true in
    let lt = below_known (length c.args.signs.now) cs (get_or t k no_entry).lit.var c.requires.below (c.requires.trail.known k (get_or t k no_entry) (get_some t k no_entry (omega (arith, within, pos)))) in
    rw c.loop-at.invariant.length lt

pub resolve_at-requires-clause-entry : goal.resolve_at-requires-clause-entry
resolve_at-requires-clause-entry g c =
    let t = c.args.trail.now in
    let k = c.loop-at.at - 1 in
    let within = c.loop-at.invariant.within in
    let pos = c.loop-at-test.true in
    (get_or t k no_entry, get_some t k no_entry (omega (arith, within, pos)), c.in-Some.is, sym c.is_marked.ensures ∙ c.if-is_marked.true)

pub loop-at-preserved : goal.loop-at-preserved
loop-at-preserved g c =
    let cs = g.S.ClauseStore.clauses c.args.store.now in
    let t = c.args.trail.now in
    let k = c.loop-at.at - 1 in
    let within = c.loop-at.invariant.within in
    let pos = c.loop-at-test.true in
    let back : c.loop-at.at ≡ c.loop-at.at - 1 + 1 = omega (arith, pos) in
    record {
      within = omega (arith, within);
      length = c.loop-at.invariant.length;
      walking = walk_passed cs t c.args.starts.now k c.in-Some.reason (get_or t k no_entry) c.loop-at.ids.items (marked_set c.loop-at.signs) c.requires.trail (get_some t k no_entry (omega (arith, within, pos))) c.in-Some.is (sym c.is_marked.ensures ∙ c.if-is_marked.false)
          (subst (λ n. IsWalking cs t c.args.starts.now n c.loop-at.ids.items (marked_set c.loop-at.signs)) back c.loop-at.invariant.walking);
    }

pub returns-clause-walked : goal.returns-clause-walked
returns-clause-walked g c =
    let le = c.loop-at-test.false in
    let zero_at : c.loop-at.at ≡ 0 = omega (arith, le) in
    let cs = g.S.ClauseStore.clauses c.args.store.now in
    subst (λ n. IsWalked cs c.args.trail.now c.args.starts.now c.loop-at.ids.items n (marked_set c.loop-at.signs)) (sym zero_at)
    (walk_ended cs c.args.trail.now c.args.starts.now c.loop-at.ids.items (marked_set c.loop-at.signs) (subst (λ n. IsWalking cs c.args.trail.now c.args.starts.now n c.loop-at.ids.items (marked_set c.loop-at.signs)) zero_at c.loop-at.invariant.walking))

pub alone_since-requires-clause-below : goal.alone_since-requires-clause-below
alone_since-requires-clause-below g c k e get =
    rw c.loop-at.invariant.length (below_known (length c.args.signs.now) (g.S.ClauseStore.clauses c.args.store.now) e.lit.var c.requires.below (c.requires.trail.known k e get))

pub returns-in-Some-alone_since-clause-walked : goal.returns-in-Some-alone_since-clause-walked
returns-in-Some-alone_since-clause-walked g c =
    let cs = g.S.ClauseStore.clauses c.args.store.now in
    let t = c.args.trail.now in
    let k = c.loop-at.at - 1 in
    let within = c.loop-at.invariant.within in
    let pos = c.loop-at-test.true in
    let back : c.loop-at.at ≡ c.loop-at.at - 1 + 1 = omega (arith, pos) in
    let w = c.in-Some-alone_since.ensures in
    walk_alone cs t c.args.starts.now k w.0 c.in-Some-alone_since.start (get_or t k no_entry) c.loop-at.ids.items (marked_set c.loop-at.signs) c.requires.trail (get_some t k no_entry (omega (arith, within, pos))) w.1
    (subst (λ n. IsWalking cs t c.args.starts.now n c.loop-at.ids.items (marked_set c.loop-at.signs)) back c.loop-at.invariant.walking) w.2
