-- The states of reading filling. Private functions cite it.
use Rattle.std.specs.Prelude.{ℕ, Bool, true, false, cond, Option, Some, None, List, []}
use Rattle.regular_forms.specs.Regular.{Regular, none}
use Rattle.regular_forms.specs.Longest.{munch}
use Rattle.turtle_tokens.specs.declared.groups.CharGroup.{CharGroup}
use Rattle.turtle_tokens.specs.declared.groups.CharGroup.TheVariants as group
use Rattle.turtle_tokens.specs.declared.filling.FillingState.{FillingState}
use Rattle.turtle_tokens.specs.declared.filling.FillingState.TheVariants.{Between, Comment}
use Rattle.turtle_tokens.specs.Groups.{group_at}
use Rattle.turtle_tokens.specs.Tokens.{closed_filling, last_filling}

-- whether the end of the last comment's line is there
pub data Ending : Type 0 where
  closed : Ending
  unclosed : Ending

abbrev pub filling_form : Bool → Ending → Regular
filling_form at_end closed = closed_filling
filling_form at_end unclosed = cond at_end last_filling none

abbrev pub between_step : CharGroup → Option FillingState
between_step group.Blank = Some Between
between_step group.LineEnd = Some Between
between_step group.Hash = Some Comment
between_step g = None

abbrev pub comment_step : CharGroup → FillingState
comment_step group.LineEnd = Between
comment_step g = Comment

unfoldable pub filling_step : FillingState → CharGroup → Option FillingState
filling_step Between g = between_step g
filling_step Comment g = Some (comment_step g)

abbrev pub filling_char : FillingState → ℕ → Option FillingState
filling_char s c = filling_step s (group_at c)

unfoldable pub filling_out : Bool → FillingState → Option Ending
filling_out at_end Between = Some closed
filling_out at_end Comment = cond at_end (Some unclosed) None

abbrev pub filling_at : Bool → List ℕ → Option (Ending × List ℕ)
filling_at at_end cs = munch filling_char (filling_out at_end) Between cs

abbrev pub has_ending : Option Ending → Bool
has_ending None = false
has_ending (Some e) = true

abbrev pub rest_of : Option (Ending × List ℕ) → List ℕ
rest_of None = []
rest_of (Some x) = x.1
