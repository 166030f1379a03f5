use Rattle.std.proofs.Common.{arith, sym, ap, ◌∙◌, subst, ◌+◌, ◌↔◌, ℕ, IsTrue, length, get_or, replicate, false, []}
use Rattle.digraph.specs.Reach.{IsReached}
use Rattle.digraph.specs.Digraph.{successors_at}
use Rattle.std.proofs.lemmas.Option.{slice_get_within, get_or_from_slice_get}
use Rattle.digraph.specs.Search.{Findings, with_marks}
use Rattle.digraph.proofs.Searched.{IsSearch, search_start, search_next, search_exact, met_le}
use Rattle.digraph.proofs.reach.reached.Goals as goal

abbrev nothing_met : ℕ → Findings
nothing_met n = record { marks = replicate n false; met = [] }

pub seeking-init : goal.seeking-init
seeking-init c =
    let g = c.args.graph.now in
    subst (IsSearch g c.args.starts.now 0) (sym c.in_ok-mark_all.ensures)
    (search_start g c.in_ok-found.found c.args.starts.now (c.in_ok-found.ensures ∙ ap nothing_met c.len.ensures))

pub seeking-preserved : goal.seeking-preserved
seeking-preserved c =
    let g = c.args.graph.now in
    let e = c.in_ok-mark_all-2.ensures ∙ ap (with_marks c.seeking.found) c.targets.ensures in
    let met = c.in-Some.ensures.some in
    subst (IsSearch g c.args.starts.now (c.seeking.next + 1)) (sym e)
    (search_next g c.seeking.found c.args.starts.now c.seeking.next c.in-Some.y c.seeking.invariant (slice_get_within c.seeking.found.met c.seeking.next c.in-Some.y met) (get_or_from_slice_get c.seeking.found.met c.seeking.next c.in-Some.y 0 met))

pub seeking-smaller : goal.seeking-smaller
seeking-smaller c =
    let l = slice_get_within c.seeking.found.met c.seeking.next c.in-Some.y c.in-Some.ensures.some in
    let m = met_le c.args.graph.now c.seeking.found c.args.starts.now c.seeking.next c.seeking.invariant in
    omega (arith, l, m)

pub returns : goal.returns
returns c =
    let g = c.args.graph.now in
    let starts = c.args.starts.now in
    record {
      length = ap length c.into_marks.ensures ∙ c.seeking.invariant.tracked.size;
      exact = λ x l. subst (λ ms. IsTrue (get_or ms x false) ↔ IsReached (successors_at g) starts x) (sym c.into_marks.ensures)
          (search_exact g c.seeking.found starts c.seeking.next c.seeking.invariant c.in_default.ensures.none x l);
    }
