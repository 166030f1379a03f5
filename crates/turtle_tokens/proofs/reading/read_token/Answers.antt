use Rattle.std.proofs.Common.{rules}
use Rattle.std.specs.Str.{chars}
use Rattle.regular_forms.proofs.Loops.{goes_begin, goes_found}
use Rattle.turtle_tokens.specs.Reading.{token_view}
use Rattle.turtle_tokens.specs.States.{step_char, out, token_at}
use Rattle.turtle_tokens.specs.declared.states.State.TheVariants.{Start}
use Rattle.turtle_tokens.proofs.TokenTable.{out-start}
use Rattle.turtle_tokens.proofs.reading.read_token.Goals as goal

pub characters-init : goal.characters-init
characters-init c = (search rules, goes_begin step_char out Start (chars c.args.text.now) out-start)

pub characters-preserved-in-Some-kind_of_state : goal.characters-preserved-in-Some-kind_of_state
characters-preserved-in-Some-kind_of_state c =
    (search rules, goes_found step_char out (token_at (chars c.args.text.now)) c.characters.state (token_view c.characters.longest) c.in-Some.c (chars c.in-Some.after.now) (chars c.characters.rest.now) c.in-Some-next_state.further c.in-Some-kind_of_state.kind c.in-Some.ensures c.in-Some-next_state.ensures c.in-Some-kind_of_state.ensures c.characters.invariant.1)
