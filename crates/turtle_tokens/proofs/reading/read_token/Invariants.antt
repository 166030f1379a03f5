use Rattle.std.proofs.Common.{length}
use denote.Text.{Utf8}
use denote.Shadow.{shadow}
use Rattle.std.specs.Str.{chars}
use Rattle.regular_forms.proofs.Loops.{Goes}
use Rattle.turtle_tokens.specs.Reading.{token_view}
use Rattle.turtle_tokens.specs.States.{step_char, out, token_at}
use Rattle.turtle_tokens.proofs.reading.read_token.Given as goal

abbrev pub invariant-characters : goal.invariant-characters
invariant-characters l = shadow (Utf8 l.rest) × Goes step_char out (token_at (chars l.text)) l.state (chars l.rest) (token_view l.longest)

abbrev pub decreases-characters : goal.decreases-characters
decreases-characters l = length (chars l.rest)
