use Rattle.std.proofs.Common.{◌∙◌}
use Rattle.turtle_tokens.proofs.Fronts.{whole_front, valid_front}
use Rattle.turtle_tokens.proofs.front.utf8_front.Goals as goal

pub returns-in-Ok : goal.returns-in-Ok
returns-in-Ok c = whole_front c.args.bytes.now c.in-Ok.text.now c.in-Ok.ensures.cases.0 c.in-Ok.ensures.cases.1

pub returns-in-Ok-from_utf8 : goal.returns-in-Ok-from_utf8
returns-in-Ok-from_utf8 c = valid_front c.args.bytes.now c.in-Ok-from_utf8.text.now c.valid_up_to.result (rw c.valid_up_to.ensures c.in-Err.ensures.cases.1) (c.in-Ok-from_utf8.ensures.cases.0 ∙ c.split_at.ensures.front)
