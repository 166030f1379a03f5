use Rattle.std.proofs.Common.{rules}
use Rattle.std.specs.Str.{chars}
use Rattle.turtle_tokens.proofs.FillingLaws.{skipping_begin, skipping_found}
use Rattle.turtle_tokens.proofs.filling.filling_rest.Goals as goal

pub characters-init : goal.characters-init
characters-init c = (search rules, (search rules, skipping_begin c.args.at_end (chars c.args.text.now)))

pub characters-preserved-then-may_end : goal.characters-preserved-then-may_end
characters-preserved-then-may_end c =
    (search rules, (search rules, skipping_found c.args.at_end (chars c.args.text.now) c.characters.state (chars c.characters.rest.now) (chars c.characters.behind.now) c.in-Some.c (chars c.in-Some.after.now) c.in-Some-next_filling_state.further c.in-Some.ensures c.in-Some-next_filling_state.ensures c.if-may_end.ensures c.characters.invariant.1.1))
