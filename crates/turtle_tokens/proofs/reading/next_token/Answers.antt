use Rattle.std.specs.Str.{chars}
use Rattle.turtle_tokens.proofs.TokenTable.{is_longest}
use Rattle.turtle_tokens.specs.Reading.{token_view}
use Rattle.turtle_tokens.proofs.reading.next_token.Goals as goal

pub returns : goal.returns
returns c = is_longest (chars c.args.text.now) (token_view c.read_token.result) c.read_token.ensures
