use Rattle.std.proofs.Common.{◌≡◌, sym, ◌∙◌}
use Rattle.std.specs.Prelude.{IsTrue}
use Rattle.core_constraints.specs.FrameRows.{row_of_node}
use Rattle.core_constraints.proofs.Decided.{no_false}
use Rattle.core_constraints.proofs.RowLaws.{gains_none, gains_pushed}
use Rattle.core_constraints.proofs.constraint_rows.push_row_of_node.Goals as goal

pub returns-then-not-is_at_fault : goal.returns-then-not-is_at_fault
returns-then-not-is_at_fault c =
    gains_none c.args.rows.now (λ r. IsTrue c.args.is_at_fault × (r ≡ row_of_node c.args.frame c.args.node)) (λ r h. no_false c.args.is_at_fault h.0 c.if-not-is_at_fault.true)

pub returns : goal.returns
returns c =
    gains_pushed c.push.result c.args.rows.now c.push.new.self c.in_ok-row_of_value.field-0 (λ r. IsTrue c.args.is_at_fault × (r ≡ row_of_node c.args.frame c.args.node)) c.push.ensures.ok
    (c.if-not-is_at_fault.false, c.in_ok-row_of_value.ensures) (λ r h. c.in_ok-row_of_value.ensures ∙ sym h.1)
