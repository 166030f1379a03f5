use Rattle.std.proofs.Common.{◌∷◌, [], ◌++◌, ap, ◌∙◌, get_or}
use Rattle.std.proofs.lemmas.Option.{slice_get-get_or}
use Rattle.premise_rules.proofs.RuleLaws.{undo_start, undo_more, undo_whole}
use Rattle.premise_rules.proofs.rule_parts.undo_parts.Goals as goal

pub pair-init : goal.pair-init
pair-init c = undo_start c.args.problem.now c.args.pair.now c.new-list.result c.new-list.ensures

pub pair-preserved : goal.pair-preserved
pair-preserved c =
    let ts = c.args.pair.now in
    let k = c.pair.t-index in
    undo_more c.args.problem.now ts k (get_or ts k 0) c.pair.list c.push.new.self c.pair.invariant (slice_get-get_or ts k 0 c.pair-test.true)
    (c.in_ok-push.ensures.ok ∙ ap (λ p. c.pair.list ++ p ∷ []) c.unchanged.ensures)

pub returns : goal.returns
returns c = undo_whole c.args.problem.now c.args.pair.now c.pair.t-index c.pair.list c.pair-test.false c.pair.invariant
