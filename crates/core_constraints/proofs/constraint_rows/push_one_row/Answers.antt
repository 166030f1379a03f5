use Rattle.std.proofs.Common.{sym, ◌∙◌}
use Rattle.shapes_graph.specs.Forms.{form_of}
use Rattle.shapes_graph.specs.Conformance.{HoldsBy}
use Rattle.core_constraints.specs.Findings.{data_of, term_of, IsConforming, IsValueNode}
use Rattle.core_constraints.specs.Rows.{result_of}
use Rattle.core_constraints.specs.RowLists.{IsNoRow, frame_by}
use Rattle.core_constraints.specs.FrameRows.{IsRowOfForm}
use Rattle.core_constraints.proofs.Decided.{says_true, says_false}
use Rattle.core_constraints.proofs.RowLaws.{gains_none, gains_pushed, one_row}
use Rattle.core_constraints.proofs.constraint_rows.push_one_row.Goals as goal

pub returns-in_err-holds-clause-truthful : goal.returns-in_err-holds-clause-truthful
returns-in_err-holds-clause-truthful c = c.holds.ensures.truthful

pub returns-then-branch-clause-rows : goal.returns-then-branch-clause-rows
returns-then-branch-clause-rows c =
    let f = c.args.frame in
    let i = f.input.now in
    let form = form_of f.constraint.now.kind in
    let V = IsValueNode i f.constraint.now.shape f.node in
    let x = term_of i f.node in
    let h = says_true c.in_ok-holds.field-0 (HoldsBy (data_of i) (IsConforming i) V x form) c.in_ok-holds.ensures.says c.if-branch.true in
    gains_none c.args.rows.now (IsRowOfForm f form) (λ r w. ((one_row (data_of i) (IsConforming i) IsNoRow V x (frame_by f) form c.requires.one r).1 w).0 h)

pub returns-then-branch-clause-truthful : goal.returns-then-branch-clause-truthful
returns-then-branch-clause-truthful c = c.holds.ensures.truthful

pub returns-in_err-row_without_value-clause-truthful : goal.returns-in_err-row_without_value-clause-truthful
returns-in_err-row_without_value-clause-truthful c = c.holds.ensures.truthful

pub returns-clause-rows : goal.returns-clause-rows
returns-clause-rows c =
    let f = c.args.frame in
    let i = f.input.now in
    let form = form_of f.constraint.now.kind in
    let V = IsValueNode i f.constraint.now.shape f.node in
    let x = term_of i f.node in
    let h = says_false c.in_ok-holds.field-0 (HoldsBy (data_of i) (IsConforming i) V x form) c.in_ok-holds.ensures.says c.if-branch.false in
    let e = one_row (data_of i) (IsConforming i) IsNoRow V x (frame_by f) form c.requires.one in
    gains_pushed c.push.result c.args.rows.now c.push.new.self c.in_ok-row_without_value.field-0 (IsRowOfForm f form) c.push.ensures.ok
    ((e (result_of c.in_ok-row_without_value.field-0)).0 (h, c.in_ok-row_without_value.ensures)) (λ r w. c.in_ok-row_without_value.ensures ∙ sym ((e r).1 w).1)

pub returns-clause-truthful : goal.returns-clause-truthful
returns-clause-truthful c = c.holds.ensures.truthful
