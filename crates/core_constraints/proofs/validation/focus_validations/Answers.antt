use Rattle.std.proofs.Common.{◌≡◌, ◌<◌, ◌≤◌, [], Contains, List, ℕ, sym, subst, arith}
use Rattle.path_eval.proofs.FollowLaws.{none_there}
use Rattle.core_constraints.specs.declared.memo.Validation.{Validation}
use Rattle.core_constraints.specs.Validations.{Adds}
use Rattle.core_constraints.proofs.ValidationLaws.{AreFocusedBefore, focus_start, focus_more, focus_end, shape_count}
use Rattle.core_constraints.proofs.validation.focus_validations.Goals as goal

pub shapes-init : goal.shapes-init
shapes-init c =
    let none : c.new-validations.result.keys ≡ [] = none_there c.new-validations.result.keys c.new-validations.ensures.len in
    subst (λ (vs : List Validation). AreFocusedBefore c.args.input.now 0 vs) (sym none) (focus_start c.args.input.now)

pub shapes-preserved : goal.shapes-preserved
shapes-preserved c =
    let i = c.args.input.now in
    let n = c.shapes.shape in
    let l : n < shape_count i = let e = c.shape_count-shape-end.ensures in omega (arith, c.shapes-test.true, e) in
    focus_more i n c.shapes.validations.keys c.push_validations.new.validations.keys c.in_ok-nodes.nodes.items c.requires l c.in_ok-nodes.ensures.within c.in_ok-nodes.ensures.exact c.shapes.invariant
    (subst (λ (ns : List ℕ). Adds c.shapes.validations.keys c.push_validations.new.validations.keys (λ v. (n ≡ v.shape) × Contains ns v.node)) c.as_slice.ensures.value c.in_ok-push_validations.ensures)

pub returns : goal.returns
returns c =
    let i = c.args.input.now in
    let l : shape_count i ≤ c.shapes.shape = let e = c.shape_count-shape-end.ensures in omega (arith, c.shapes-test.false, e) in
    focus_end i c.shapes.shape c.shapes.validations.keys l c.shapes.invariant
