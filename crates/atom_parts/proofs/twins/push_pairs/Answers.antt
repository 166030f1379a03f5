use Rattle.std.proofs.Common.{List, ◌++◌, take_all, ap, ◌∙◌}
use Rattle.atom_parts.specs.declared.twins.TaggedNode.{TaggedNode}
use Rattle.atom_parts.specs.TaggedNodes.{numbers}
use Rattle.atom_parts.proofs.TagGroups.{pairs_with, pairs_more, pairs_skip}
use Rattle.atom_parts.proofs.twins.push_pairs.Goals as goal
use Rattle.atom_parts.proofs.twins.push_pairs.Goals.{then-y-other+in_ok-push, else-y-other}

pub others-preserved : goal.others-preserved
others-preserved c =
    let ps = c.args.others.now in
    let k = c.others.other-index in
    elim c.if-y-other.branch [
      | then-y-other+in_ok-push w ↦
          (λ j. (w.pairs-is j).items) ∙ (w.in_ok-push.ensures.items ∙ pairs_more c.args.y ps k c.other-item.result c.args.pairs.now.items c.others.pairs.items c.others-test.true c.other-item.is w.if-y-other.true c.others.invariant)
      | else-y-other w ↦
          (λ j. (w.pairs-is j).items) ∙ pairs_skip c.args.y ps k c.other-item.result c.args.pairs.now.items c.others.pairs.items c.others-test.true c.other-item.is w.if-y-other.false c.others.invariant
    ]

pub returns : goal.returns
returns c =
    c.others.invariant ∙ ap (λ (ps : List TaggedNode). c.args.pairs.now.items ++ pairs_with c.args.y (numbers ps)) (take_all c.others.other-index c.args.others.now c.others-test.false)
