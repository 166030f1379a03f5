use Rattle.std.proofs.Common.{rules, sym, ap, ◌∙◌, subst, ◌≡◌, length, None, cond, nat_lt, suc, min, option_map, ◌-◌, ◌<◌}
use Rattle.std.proofs.lemmas.Bool.{false≢true}
use Rattle.std.proofs.lemmas.List.{length-replicate}
use Rattle.digraph.specs.Digraph.{look}
use Rattle.digraph.specs.Settling.{known_count, Covers}
use Rattle.digraph.proofs.Settled.{settled_passes, settled_known, settled_depth, right_none, Passes, falls, settles_all, nothing}
use Rattle.digraph.proofs.depth.depths.Goals as goal

pub passing-init : goal.passing-init
passing-init c =
    record {
      size = ap length c.in_ok-depths.ensures ∙ length-replicate c.len.result None ∙ c.len.ensures;
      before = search rules;
      right = right_none c.args.cap c.args.graph.now c.in_ok-depths.depths.items (λ x. ap (λ t. look t x) c.in_ok-depths.ensures ∙ nothing _ x);
      settled = λ e. absurd (false≢true (sym e));
    }

pub passing-smaller : goal.passing-smaller
passing-smaller c =
    let g = c.args.graph.now in
    let order = c.deref-in-passing.result.now in
    let p = settled_passes c.args.cap g c.passing.depths.items order c.passing.invariant.right in
    let q = subst (λ t. Passes c.args.cap g c.passing.depths.items t order) (sym c.settle_all.ensures) p in
    let after = c.count_known-after.ensures ∙ ap known_count c.deref-in-passing-2.ensures.value in
    let f = falls c.args.cap g _ _ _ q c.passing.before c.count_known-after.result c.passing.invariant.before after in
    subst (λ o. cond (nat_lt c.passing.before c.count_known-after.result) (suc (length c.settle_all.new.depths.items - known_count c.settle_all.new.depths.items)) 0 < cond o (suc (length c.passing.depths.items - known_count c.passing.depths.items)) 0) (sym c.passing-test.true) f

pub passing-preserved : goal.passing-preserved
passing-preserved c =
    let g = c.args.graph.now in
    let order = c.deref-in-passing.result.now in
    let p = settled_passes c.args.cap g c.passing.depths.items order c.passing.invariant.right in
    let q = subst (λ t. Passes c.args.cap g c.passing.depths.items t order) (sym c.settle_all.ensures) p in
    let after : c.count_known-after.result ≡ known_count c.settle_all.new.depths.items = c.count_known-after.ensures ∙ ap known_count c.deref-in-passing-2.ensures.value in
    let covers : Covers order (length g) = subst (λ xs. Covers xs (length g)) (sym c.deref-in-passing.ensures.value) c.in_ok-order.ensures in
    record {
      size = q.size ∙ c.passing.invariant.size;
      before = after;
      right = q.right;
      settled = settles_all c.args.cap g _ _ _ q c.passing.before c.count_known-after.result c.passing.invariant.before after (subst (Covers order) (sym c.passing.invariant.size) covers);
    }

pub returns-clause-value : goal.returns-clause-value
returns-clause-value c =
    settled_depth c.args.cap c.args.graph.now c.passing.depths.items c.passing.invariant.size c.passing.invariant.right (c.passing.invariant.settled (search rules))

pub returns-clause-any : goal.returns-clause-any
returns-clause-any c = λ k x d e.
    settled_known c.args.cap c.args.graph.now c.passing.depths.items c.passing.invariant.size c.passing.invariant.right (c.passing.invariant.settled (search rules)) k x (min c.args.cap d) (ap (option_map (min c.args.cap)) e)
