use Rattle.std.proofs.Common.{◌≡◌, ◌<◌, true, nat_eq, sym, ap, ◌∙◌, subst}
use Rattle.std.specs.List.{list_any}
use Rattle.repair_problem.specs.Setting.{Setting}
use Rattle.path_levels.specs.PossibleNodes.{node_count}
use Rattle.path_levels.specs.PathParts.{is_possible}
use Rattle.path_levels.proofs.Possibility.{has_is_possible}
use Rattle.path_levels.proofs.parts.parts_of_reach.Goals as goal

pub reach_list-requires-clause-x : goal.reach_list-requires-clause-x
reach_list-requires-clause-x c =
    let s = c.args.nodes.now in
    let can : is_possible s c.args.p c.args.x c.args.y ≡ true = ap (list_any (λ z. nat_eq c.args.y z)) (sym c.in_ok-numbers.ensures.value) ∙ (sym c.has-2.ensures ∙ c.if-not-has.false) in
    subst (λ (t : Setting). c.args.x < node_count t) (sym c.numbers.ensures.same) (has_is_possible s c.args.p c.args.x c.args.y can).0

pub reach_list-requires-clause-y : goal.reach_list-requires-clause-y
reach_list-requires-clause-y c =
    let s = c.args.nodes.now in
    let can : is_possible s c.args.p c.args.x c.args.y ≡ true = ap (list_any (λ z. nat_eq c.args.y z)) (sym c.in_ok-numbers.ensures.value) ∙ (sym c.has-2.ensures ∙ c.if-not-has.false) in
    subst (λ (t : Setting). c.args.y < node_count t) (sym c.numbers.ensures.same) (has_is_possible s c.args.p c.args.x c.args.y can).1
