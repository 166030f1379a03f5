use Rattle.std.specs.Str.{chars}
use Rattle.std.proofs.lemmas.Str.{scalars-chars}
use Rattle.turtle_tokens.proofs.FillingLaws.{is_skipped, is_shorter}
use Rattle.turtle_tokens.proofs.filling.skip_filling.Goals as goal

pub returns-clause-skips : goal.returns-clause-skips
returns-clause-skips c = is_skipped c.args.at_end (chars c.args.text.now) (chars c.filling_rest.result.now) (scalars-chars c.args.text.now c.utf8.text) c.filling_rest.ensures

pub returns-clause-shorter : goal.returns-clause-shorter
returns-clause-shorter c = is_shorter c.args.at_end c.args.text.now c.filling_rest.result.now c.utf8.text c.filling_rest.utf8 c.filling_rest.ensures
