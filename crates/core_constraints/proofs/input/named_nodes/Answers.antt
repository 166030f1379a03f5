use Rattle.std.proofs.Common.{◌≤◌, length, arith}
use Rattle.shapes_profile.specs.Shapes.{shape_terms}
use Rattle.core_constraints.proofs.FocusNumbers.{has_named_more, has_named_all}
use Rattle.core_constraints.proofs.input.named_nodes.Goals as goal

pub shapes-init : goal.shapes-init
shapes-init c = λ n x l. absurd (omega (arith, l))

pub shapes-preserved : goal.shapes-preserved
shapes-preserved c =
    has_named_more c.args.shapes.now c.shapes.shape c.targets_of.result.now c.shapes.named c.push_all_named.new.terms c.targets_of.ensures c.in_ok-push_all_named.ensures c.shapes.invariant

pub returns : goal.returns
returns c =
    let end : length (shape_terms c.args.shapes.now) ≤ c.shapes.shape = let e = c.shape_count-shape-end.ensures in omega (arith, e, c.shapes-test.false) in
    has_named_all c.args.shapes.now c.shapes.shape c.shapes.named end c.shapes.invariant
