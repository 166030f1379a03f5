use Rattle.std.proofs.Common.{slice_index, ◌≡◌, ℕ, ◌<◌, All, true, false, subst}
use Rattle.digraph.proofs.LabelLaws.{falling_no_circle}
use Rattle.digraph.proofs.circles.is_on_circle.Goals as goal

pub returns-then-are_below : goal.returns-then-are_below
returns-then-are_below c =
    let g = c.args.graph.now in
    let labels = c.args.labels.now in
    let below = c.are_below.ensures.0 c.if-are_below.true in
    let named = subst (λ (n : ℕ). All (λ y. slice_index labels y < n) c.targets.result.now) c.number_at.ensures below in
    let falls = subst (λ ys. All (λ y. slice_index labels y < slice_index labels c.args.x) ys) c.targets.ensures named in
    ((λ e. absurd (let z : false ≡ true = e in cc)), (λ w. absurd (falling_no_circle g labels (c.requires.sound c.if-are_sound.true) c.args.x falls w)))
