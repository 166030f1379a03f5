use Rattle.std.proofs.Common.{rules, arith, sym, subst, ap, ◌∙◌, ◌≡◌, ◌<◌, Some, length, slice_get, get_or, ◌++◌, drop, take}
use Rattle.std.proofs.lemmas.List.{get_or_read}
use Rattle.sat_core.specs.Kept.{AreSigned}
use Rattle.sat_core.proofs.Pushed.{some_same}
use Rattle.sat_core.proofs.Entries.{place_within, get_some}
use Rattle.sat_core.proofs.Cut.{cut_trail, take_in}
use Rattle.sat_core.proofs.Whole.{kept_signed, whole_back}
use Rattle.sat_core.proofs.solver.Solver.backjump.Goals as goal

pub undo-requires-clause-signed : goal.undo-requires-clause-signed
undo-requires-clause-signed g c = rw c.as_mut_slice.ensures.value (kept_signed _ c.self.inside.signs.items c.self.invariant)

pub invariant_of-self : goal.invariant_of-self
invariant_of-self g c =
    let below : c.args.level < length c.self.inside.starts.items = search rules in
    let here : c.index-start.result.now ≡ get_or c.self.inside.starts.items c.args.level 0 = get_or_read c.self.inside.starts.items _ _ below c.index-start.ensures 0 in
    let at : slice_get c.self.inside.starts.items c.args.level ≡ Some c.index-start.result.now = get_some c.self.inside.starts.items c.args.level 0 below ∙ ap (λ n. Some n) (sym here) in
    let len : length c.undo.new.signs ≡ length c.self.inside.signs.items = search rules in
    let count : length c.undo.new.signs ≡ c.self.inside.signs.len = search rules in
    let back : take c.self.inside.signs.len (c.undo.new.signs ++ drop (length c.undo.new.signs) c.self.inside.signs.items) ≡ c.undo.new.signs = whole_back c.undo.new.signs c.self.inside.signs.items c.self.inside.signs.len count in
    let signed = subst (λ t. AreSigned t c.undo.new.signs) c.undo.ensures.trail c.undo.ensures.signed in
    rw (back, c.undo.ensures.trail, c.truncate.ensures.items)
    (record {
      solving = record {
        trail = cut_trail (g.S.ClauseStore.clauses c.self.inside.store) c.self.inside.trail.items c.self.inside.starts.items c.args.level c.index-start.result.now c.self.invariant.solving.trail at;
        log = c.self.invariant.solving.log;
        empty_last = c.self.invariant.solving.empty_last;
      };
      marks = signed.marks;
      below = rw len c.self.invariant.below;
      count = signed.count;
    })

pub returns-then-level-len-clause-cut : goal.returns-then-level-len-clause-cut
returns-then-level-len-clause-cut g c k get =
    let below : c.args.level < length c.self.inside.starts.items = search rules in
    let here : c.index-start.result.now ≡ get_or c.self.inside.starts.items c.args.level 0 = get_or_read c.self.inside.starts.items _ _ below c.index-start.ensures 0 in
    let at : slice_get c.self.inside.starts.items c.args.level ≡ Some c.index-start.result.now = get_some c.self.inside.starts.items c.args.level 0 below ∙ ap (λ n. Some n) (sym here) in
    let same : c.index-start.result.now ≡ k = some_same (sym at ∙ subst (λ s. slice_get s.starts c.args.level ≡ Some k) (sym c.self.view_is) get) in
    subst (λ s. c.undo.new.trail.items ≡ take k s.trail) c.self.view_is (c.undo.ensures.trail ∙ ap (λ n. take n c.self.inside.trail.items) same)

pub returns-then-level-len-clause-before : goal.returns-then-level-len-clause-before
returns-then-level-len-clause-before g c j k lt get =
    let below : c.args.level < length c.self.inside.starts.items = search rules in
    let here : c.index-start.result.now ≡ get_or c.self.inside.starts.items c.args.level 0 = get_or_read c.self.inside.starts.items _ _ below c.index-start.ensures 0 in
    let at : slice_get c.self.inside.starts.items c.args.level ≡ Some c.index-start.result.now = get_some c.self.inside.starts.items c.args.level 0 below ∙ ap (λ n. Some n) (sym here) in
    let up = c.self.invariant.solving.trail.rising j c.args.level k c.index-start.result.now lt (subst (λ s. slice_get s.starts j ≡ Some k) (sym c.self.view_is) get) at in
    subst (λ s. take k c.undo.new.trail.items ≡ take k s.trail) c.self.view_is (ap (take k) c.undo.ensures.trail ∙ take_in c.self.inside.trail.items k c.index-start.result.now (omega (arith, up)))

pub returns-else-level-len-clause-cut : goal.returns-else-level-len-clause-cut
returns-else-level-len-clause-cut g c k get =
    let len : c.len.result ≡ length c.self.inside.starts.items = search rules in
    let le = c.if-level-len.false in
    let w = place_within c.self.inside.starts.items c.args.level k (subst (λ s. slice_get s.starts c.args.level ≡ Some k) (sym c.self.view_is) get) in
    absurd (omega (arith, w, le, len))
