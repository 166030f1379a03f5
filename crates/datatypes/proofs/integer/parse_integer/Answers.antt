use Rattle.std.proofs.Common.{sym, ◌∙◌, ap, arith}
use Rattle.datatypes.specs.Forms.{is_integer}
use Rattle.datatypes.proofs.Sizes.{below_is, above_is}
use Rattle.datatypes.proofs.integer.parse_integer.Goals as goal

pub returns-in-Err : goal.returns-in-Err
returns-in-Err c =
    below_is c.args.text.now (ap is_integer (sym c.as_bytes.ensures.value) ∙ sym c.if-not-is_integer.ensures)
    (sym (c.if-starts_with.ensures.byte (omega arith) (omega arith) (λ w o found. found)))
    c.in-Err.ensures.value.0

pub returns-in-Err-2 : goal.returns-in-Err-2
returns-in-Err-2 c =
    above_is c.args.text.now (ap is_integer (sym c.as_bytes.ensures.value) ∙ sym c.if-not-is_integer.ensures)
    (sym (c.if-starts_with.ensures.byte (omega arith) (omega arith) (λ w o found. found)))
    c.in-Err-2.ensures.value.0
