use Rattle.std.proofs.Common.{string_bytes}
use Rattle.std.specs.Str.{chars}
use Rattle.turtle_terms.proofs.Expanding.{escaped_leaves, end_leaves, char_shorter}
use Rattle.turtle_terms.proofs.names.push_escaped.Goals as goal

pub returns-in_ok-push-in-Some-clause-pushes : goal.returns-in_ok-push-in-Some-clause-pushes
returns-in_ok-push-in-Some-clause-pushes c = escaped_leaves c.in-Some.c (chars c.args.text.now) (chars c.in-Some.rest.now) (string_bytes c.args.out.now) _ c.in-Some.ensures c.in_ok-push-in-Some.ensures.bytes

pub returns-in_ok-push-in-Some-clause-shorter : goal.returns-in_ok-push-in-Some-clause-shorter
returns-in_ok-push-in-Some-clause-shorter c = char_shorter c.in-Some.c (chars c.args.text.now) (chars c.in-Some.rest.now) c.in-Some.ensures

pub returns-in-None-clause-pushes : goal.returns-in-None-clause-pushes
returns-in-None-clause-pushes c = end_leaves (chars c.args.text.now) (string_bytes c.args.out.now) c.in-None.ensures
