use Rattle.std.proofs.Common.{◌≡◌, ◌<◌, ℕ, List, [], ◌∷◌, ◌++◌, Some, slice_get, length, Contains, ◌↔◌, refl, ap, ◌∙◌, subst, arith}
use Rattle.shapes_graph.specs.Reach.{path_levels}
use Rattle.path_eval.specs.declared.automaton.State.{State}
use Rattle.path_eval.specs.declared.automaton.State.TheVariants.{Found}
use Rattle.path_eval.specs.declared.visits.Visit.{Visit}
use Rattle.path_eval.specs.Automaton.{Moves}
use Rattle.path_eval.specs.Visits.{AreSearched}
use Rattle.path_eval.proofs.GrowthLaws.{if_ok_both}
use Rattle.path_eval.proofs.ReachedLaws.{reached_are}
use Rattle.path_eval.proofs.search.reached_from.Goals as goal

pub returns : goal.returns
returns c =
    let ps = c.args.forms.now in
    let g = c.args.graph.now.graph in
    let n = c.args.graph.now.nodes in
    let ss = c.compile.new.states.items in
    let first : c.push.new.self.items ≡ Found ∷ [] = c.in_ok-push.ensures.items ∙ ap (λ (us : List State). us ++ Found ∷ []) c.new-states.ensures.items in
    let one : 0 < length c.push.new.self.items = let e = ap length first in omega (arith, e) in
    let end : slice_get ss 0 ≡ Some Found = c.in_ok-entry.ensures.grown.kept 0 one ∙ ap (λ (us : List State). slice_get us 0) first in
    let compiled = c.in_ok-entry.ensures.compiled ss (λ i a b. refl) in
    let searched = subst (λ (us : List State). AreSearched (Moves ps g us) (length us) n c.in_ok-entry.entry c.args.starts.now c.in_ok-visits.visits.keys) c.as_slice.ensures.value c.in_ok-visits.ensures in
    if_ok_both c.found_nodes.result _ _ c.found_nodes.ensures.rises c.found_nodes.ensures.exact
    (λ v rises exact. reached_are ps g ss n path_levels c.args.path c.args.direction c.in_ok-entry.entry compiled end c.args.starts.now c.in_ok-visits.visits.keys v.items searched rises (subst (λ (us : List Visit). (i : ℕ) → Contains v.items i ↔ Contains us (record { state = 0; node = i })) c.as_slice-2.ensures.keys exact))
