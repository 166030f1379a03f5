use Rattle.std.proofs.Common.{string_bytes}
use Rattle.std.specs.Str.{chars}
use Rattle.turtle_terms.specs.Names.{is_not_backslash}
use Rattle.turtle_terms.proofs.Expanding.{run_leaves, skips_shorter}
use Rattle.turtle_terms.proofs.names.push_run.Goals as goal

pub returns-clause-pushes : goal.returns-clause-pushes
returns-clause-pushes c = run_leaves (chars c.args.text.now) (chars c.skip-rest.result.now) c.front.result.now (string_bytes c.args.out.now) _ c.skip-rest.ensures.run c.front.ensures c.in_ok-push_str.ensures.bytes

pub returns-clause-stops : goal.returns-clause-stops
returns-clause-stops c = c.skip-rest.ensures.run.stops

pub returns-clause-shorter : goal.returns-clause-shorter
returns-clause-shorter c = skips_shorter is_not_backslash (chars c.args.text.now) (chars c.skip-rest.result.now) c.skip-rest.ensures.run
