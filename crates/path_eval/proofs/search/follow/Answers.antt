use Rattle.std.proofs.Common.{◌≡◌, ◌<◌, Some, slice_get, length, Contains, List, ℕ, sym, ap, ◌∙◌, subst}
use Rattle.rdf_navigation.specs.Numbers.{term_at}
use Rattle.path_eval.specs.declared.automaton.State.TheVariants.{Step, Fork}
use Rattle.path_eval.specs.Automaton.{StepBy, Moves}
use Rattle.path_eval.specs.Visits.{position, Adds}
use Rattle.path_eval.proofs.GrowthLaws.{on_ok}
use Rattle.path_eval.proofs.VisitLaws.{adds_then}
use Rattle.path_eval.proofs.FollowLaws.{follows_step, follows_fork, moves_by}
use Rattle.path_eval.proofs.search.follow.Goals as goal

pub returns-in_ok-ends-in-Step : goal.returns-in_ok-ends-in-Step
returns-in_ok-ends-in-Step c =
    let ps = c.args.forms.now in
    let g = c.args.graph.now.graph in
    let n = c.args.graph.now.nodes in
    let ss = c.args.states.now in
    let v = c.args.visit in
    let s = c.in-Step in
    let ends = c.in_ok-ends-in-Step.ends.items in
    let at : slice_get ss v.state ≡ Some (Step s.path s.direction s.next) = sym c.in-Some.ensures ∙ ap Some s.is in
    on_ok c.add_all.result _ _ c.add_all.ensures
    (λ a. follows_step (Moves ps g ss) (length ss) n v c.args.visits.now.keys c.add_all.new.visits.keys s.next ends (StepBy (slice_get ps s.path) s.direction g (term_at n v.node)) c.in_ok-ends-in-Step.ensures.within c.in_ok-ends-in-Step.ensures.exact
    (subst (λ (is : List ℕ). Adds c.args.visits.now.keys c.add_all.new.visits.keys (λ u. (s.next < length ss) × (s.next ≡ u.state) × Contains is u.node)) c.as_slice.ensures.value a)
    (moves_by ps g ss (Step s.path s.direction s.next) (position n v) at))

pub returns-in_ok-add-in-Fork : goal.returns-in_ok-add-in-Fork
returns-in_ok-add-in-Fork c =
    let ps = c.args.forms.now in
    let g = c.args.graph.now.graph in
    let n = c.args.graph.now.nodes in
    let ss = c.args.states.now in
    let v = c.args.visit in
    let s = c.in-Fork in
    let at : slice_get ss v.state ≡ Some (Fork s.first s.second) = sym c.in-Some.ensures ∙ ap Some s.is in
    on_ok c.add-in-Fork.result _ _ c.add-in-Fork.ensures
    (λ b. follows_fork (Moves ps g ss) (length ss) n v c.args.visits.now.keys c.add-in-Fork.new.visits.keys s.first s.second c.requires
    (adds_then c.args.visits.now.keys c.add.new.visits.keys c.add-in-Fork.new.visits.keys (λ u. (s.first < length ss) × (record { state = s.first; node = v.node } ≡ u)) (λ u. (s.second < length ss) × (record { state = s.second; node = v.node } ≡ u)) c.in_ok-add-in-Fork.ensures b)
    (moves_by ps g ss (Fork s.first s.second) (position n v) at))
