use Rattle.std.proofs.Common.{◌<◌, ◌≤◌, length, sym, subst, arith}
use Rattle.shapes_profile.specs.Shapes.{shape_terms}
use Rattle.core_constraints.proofs.Decided.{says_true, says_false}
use Rattle.core_constraints.proofs.Conformed.{fresh, IsMet, met_next, input_focus, met_conforms, met_empty, unmet_conforms, unmet_empty}
use Rattle.core_constraints.proofs.conformance.conforms.Goals as goal

pub shapes-init : goal.shapes-init
shapes-init c = (fresh c.in_ok-input.input c.new-memo.result c.new-memo.ensures.verdicts c.new-memo.ensures.classes, λ n l. absurd (omega arith))

pub conform_to_shape-requires : goal.conform_to_shape-requires
conform_to_shape-requires c =
    let i = c.in_ok-input.input in
    let e = c.in_ok-input.ensures in
    let count : c.shapes.shape < length (shape_terms c.args.shapes.now) = omega (arith, c.shape_count-shape-end.ensures, c.shapes-test.true) in
    record {
      shape = subst (λ t. c.shapes.shape < length (shape_terms t)) (sym e.shapes) count;
      focus = input_focus i c.args.shapes.now c.args.graph.now e.shapes e.graph e.focus;
      truthful = c.shapes.invariant.0;
    }

pub shapes-preserved : goal.shapes-preserved
shapes-preserved c =
    let i = c.in_ok-input.input in
    (c.in_ok-conform_to_shape.ensures.truthful, met_next i c.shapes.shape (says_true c.in_ok-conform_to_shape.field-0 (IsMet i c.shapes.shape) c.in_ok-conform_to_shape.ensures.says c.if-not-branch.false) c.shapes.invariant.1)

pub returns-then-not-branch-clause-conforms : goal.returns-then-not-branch-clause-conforms
returns-then-not-branch-clause-conforms c =
    let i = c.in_ok-input.input in
    let e = c.in_ok-input.ensures in
    unmet_conforms i c.args.shapes.now c.args.graph.now e.shapes e.graph c.shapes.shape (says_false c.in_ok-conform_to_shape.field-0 (IsMet i c.shapes.shape) c.in_ok-conform_to_shape.ensures.says c.if-not-branch.true)

pub returns-then-not-branch-clause-empty : goal.returns-then-not-branch-clause-empty
returns-then-not-branch-clause-empty c =
    let i = c.in_ok-input.input in
    let e = c.in_ok-input.ensures in
    unmet_empty i c.args.shapes.now c.args.graph.now e.shapes e.graph c.triples-triples.ensures.profile e.focus c.shapes.shape (says_false c.in_ok-conform_to_shape.field-0 (IsMet i c.shapes.shape) c.in_ok-conform_to_shape.ensures.says c.if-not-branch.true)

pub returns-clause-conforms : goal.returns-clause-conforms
returns-clause-conforms c =
    let e = c.in_ok-input.ensures in
    let le : length (shape_terms c.args.shapes.now) ≤ c.shapes.shape = omega (arith, c.shape_count-shape-end.ensures, c.shapes-test.false) in
    met_conforms c.in_ok-input.input c.args.shapes.now c.args.graph.now e.shapes e.graph c.shapes.shape le c.shapes.invariant.1

pub returns-clause-empty : goal.returns-clause-empty
returns-clause-empty c =
    let e = c.in_ok-input.ensures in
    let le : length (shape_terms c.args.shapes.now) ≤ c.shapes.shape = omega (arith, c.shape_count-shape-end.ensures, c.shapes-test.false) in
    met_empty c.in_ok-input.input c.args.shapes.now c.args.graph.now e.shapes e.graph c.triples-triples.ensures.profile c.shapes.shape le c.shapes.invariant.1
