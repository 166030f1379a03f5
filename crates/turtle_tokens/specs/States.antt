-- The states of reading a token. Private functions cite it.
use Rattle.std.specs.Prelude.{ℕ, zero, suc, Bool, true, false, cond, ◌&&◌, Option, Some, None, option_map, List}
use Rattle.regular_forms.specs.Longest.{munch}
use Rattle.turtle_tokens.specs.declared.groups.CharGroup.{CharGroup}
use Rattle.turtle_tokens.specs.declared.groups.CharGroup.TheVariants as group
use Rattle.turtle_tokens.specs.declared.groups.LetterRole.TheVariants as role
use Rattle.turtle_tokens.specs.declared.kinds.TokenKind.{TokenKind}
use Rattle.turtle_tokens.specs.declared.kinds.TokenKind.TheVariants as kind
use Rattle.turtle_tokens.specs.declared.states.NumberState.{NumberState}
use Rattle.turtle_tokens.specs.declared.states.NumberState.TheVariants as number
use Rattle.turtle_tokens.specs.declared.states.NameState.{NameState}
use Rattle.turtle_tokens.specs.declared.states.NameState.TheVariants as name
use Rattle.turtle_tokens.specs.declared.states.LabelState.{LabelState}
use Rattle.turtle_tokens.specs.declared.states.LabelState.TheVariants as label
use Rattle.turtle_tokens.specs.declared.states.TagState.{TagState}
use Rattle.turtle_tokens.specs.declared.states.TagState.TheVariants as tag
use Rattle.turtle_tokens.specs.declared.filling.FillingState.{FillingState}
use Rattle.turtle_tokens.specs.declared.filling.FillingState.TheVariants.{Between}
use Rattle.turtle_tokens.specs.declared.states.BracketState.{BracketState}
use Rattle.turtle_tokens.specs.declared.states.BracketState.TheVariants as bracket
use Rattle.turtle_tokens.specs.declared.states.Quote.{Quote}
use Rattle.turtle_tokens.specs.declared.states.Quote.TheVariants as quote
use Rattle.turtle_tokens.specs.declared.states.Within.{Within}
use Rattle.turtle_tokens.specs.declared.states.Within.TheVariants as within
use Rattle.turtle_tokens.specs.declared.states.DelimitedState.{DelimitedState}
use Rattle.turtle_tokens.specs.declared.states.DelimitedState.TheVariants as delimited
use Rattle.turtle_tokens.specs.declared.states.State.{State}
use Rattle.turtle_tokens.specs.declared.states.State.TheVariants.{Start, Complete, Number, Name, Label, Tag, Bracket}
use Rattle.turtle_tokens.specs.declared.states.State.TheVariants.{Caret, Delimited}
use Rattle.turtle_tokens.specs.Filling.{filling_step}
use Rattle.turtle_tokens.specs.Groups.{group_at, is_hex_digit, begins_name, is_in_name, is_local_escape}
use Rattle.turtle_tokens.specs.Groups.{is_string_escape, is_iri_group}

-- ---- the state after one more character

unfoldable pub first_step : CharGroup → Option State
first_step group.DoubleQuote = Some (Delimited (delimited.Open quote.Double))
first_step group.SingleQuote = Some (Delimited (delimited.Open quote.Single))
first_step group.OpenParen = Some (Complete kind.OpenParen)
first_step group.CloseParen = Some (Complete kind.CloseParen)
first_step group.Plus = Some (Number number.Sign)
first_step group.Comma = Some (Complete kind.Comma)
first_step group.Minus = Some (Number number.Sign)
first_step group.Dot = Some (Number number.Dot)
first_step group.Colon = Some (Name name.Colon)
first_step group.Semicolon = Some (Complete kind.Semicolon)
first_step group.Less = Some (Delimited (delimited.Inside within.Iri))
first_step group.At = Some (Tag tag.At)
first_step group.OpenBracket = Some (Bracket bracket.Open)
first_step group.CloseBracket = Some (Complete kind.CloseBracket)
first_step group.Caret = Some Caret
first_step group.Underscore = Some (Label label.Underscore)
first_step group.Digit = Some (Number number.Integer)
first_step (group.Letter r) = Some (Name name.Word)
first_step group.NameStart = Some (Name name.Prefix)
first_step g = None

abbrev pub after_integer : CharGroup → Option NumberState
after_integer group.Digit = Some number.Integer
after_integer group.Dot = Some number.IntegerDot
after_integer (group.Letter role.HexExponent) = Some number.Exponent
after_integer g = None

abbrev pub after_decimal : CharGroup → Option NumberState
after_decimal group.Digit = Some number.Decimal
after_decimal (group.Letter role.HexExponent) = Some number.Exponent
after_decimal g = None

abbrev pub after_sign : CharGroup → Option NumberState
after_sign group.Digit = Some number.Integer
after_sign group.Dot = Some number.SignDot
after_sign g = None

abbrev pub to_decimal : CharGroup → Option NumberState
to_decimal group.Digit = Some number.Decimal
to_decimal g = None

abbrev pub to_double : CharGroup → Option NumberState
to_double group.Digit = Some number.Double
to_double g = None

abbrev pub after_exponent : CharGroup → Option NumberState
after_exponent group.Plus = Some number.ExponentSign
after_exponent group.Minus = Some number.ExponentSign
after_exponent group.Digit = Some number.Double
after_exponent g = None

unfoldable pub number_step : NumberState → CharGroup → Option NumberState
number_step number.Sign g = after_sign g
number_step number.Dot g = to_decimal g
number_step number.SignDot g = to_decimal g
number_step number.Integer g = after_integer g
number_step number.IntegerDot g = after_decimal g
number_step number.Decimal g = after_decimal g
number_step number.Exponent g = after_exponent g
number_step number.ExponentSign g = to_double g
number_step number.Double g = to_double g

abbrev pub to_prefix : CharGroup → Option NameState
to_prefix group.Dot = Some name.PrefixDots
to_prefix g = cond (is_in_name g) (Some name.Prefix) None

abbrev pub after_prefix : CharGroup → Option NameState
after_prefix group.Colon = Some name.Colon
after_prefix g = to_prefix g

abbrev pub after_word : CharGroup → Option NameState
after_word (group.Letter r) = Some name.Word
after_word g = after_prefix g

abbrev pub to_local : CharGroup → Option NameState
to_local group.Colon = Some name.Local
to_local group.Digit = Some name.Local
to_local group.Percent = Some (name.Percent true)
to_local group.Backslash = Some (name.Backslash true)
to_local g = cond (begins_name g) (Some name.Local) None

abbrev pub after_local : CharGroup → Option NameState
after_local group.Colon = Some name.Local
after_local group.Dot = Some name.LocalDots
after_local group.Percent = Some (name.Percent false)
after_local group.Backslash = Some (name.Backslash false)
after_local g = cond (is_in_name g) (Some name.Local) None

unfoldable pub name_step : NameState → CharGroup → Option NameState
name_step name.Word g = after_word g
name_step name.Prefix g = after_prefix g
name_step name.PrefixDots g = to_prefix g
name_step name.Colon g = to_local g
name_step name.Local g = after_local g
name_step name.LocalDots g = after_local g
name_step (name.Percent first) g = cond (is_hex_digit g) (Some (name.PercentHex first)) None
name_step (name.PercentHex first) g = cond (is_hex_digit g) (Some name.Local) None
name_step (name.Backslash first) g = cond (is_local_escape g) (Some name.Local) None

abbrev pub after_underscore : CharGroup → Option LabelState
after_underscore group.Colon = Some label.Colon
after_underscore g = None

abbrev pub to_label : CharGroup → Option LabelState
to_label group.Digit = Some label.Label
to_label g = cond (begins_name g) (Some label.Label) None

abbrev pub after_label : CharGroup → Option LabelState
after_label group.Dot = Some label.Dots
after_label g = cond (is_in_name g) (Some label.Label) None

unfoldable pub label_step : LabelState → CharGroup → Option LabelState
label_step label.Underscore g = after_underscore g
label_step label.Colon g = to_label g
label_step label.Label g = after_label g
label_step label.Dots g = after_label g

abbrev pub to_language : CharGroup → Option TagState
to_language (group.Letter r) = Some tag.Language
to_language g = None

abbrev pub after_language : CharGroup → Option TagState
after_language group.Minus = Some tag.Hyphen
after_language g = to_language g

abbrev pub to_subtag : CharGroup → Option TagState
to_subtag (group.Letter r) = Some tag.Subtag
to_subtag group.Digit = Some tag.Subtag
to_subtag g = None

abbrev pub after_subtag : CharGroup → Option TagState
after_subtag group.Minus = Some tag.Hyphen
after_subtag g = to_subtag g

unfoldable pub tag_step : TagState → CharGroup → Option TagState
tag_step tag.At g = to_language g
tag_step tag.Language g = after_language g
tag_step tag.Hyphen g = to_subtag g
tag_step tag.Subtag g = after_subtag g

-- behind filling, if it goes on
abbrev pub or_anon : CharGroup → Option FillingState → Option State
or_anon g (Some s) = Some (Bracket (bracket.Filling s))
or_anon group.CloseBracket None = Some (Complete kind.Anon)
or_anon g None = None

abbrev pub in_bracket : FillingState → CharGroup → Option State
in_bracket s g = or_anon g (filling_step s g)

unfoldable pub bracket_step : BracketState → CharGroup → Option State
bracket_step bracket.Open g = in_bracket Between g
bracket_step (bracket.Filling s) g = in_bracket s g

abbrev pub caret_step : CharGroup → Option State
caret_step group.Caret = Some (Complete kind.DoubleCaret)
caret_step g = None

-- the character is the quotation mark
abbrev pub closes : Quote → CharGroup → Bool
closes quote.Double group.DoubleQuote = true
closes quote.Single group.SingleQuote = true
closes q g = false

abbrev pub iri_step : CharGroup → Option State
iri_step group.Greater = Some (Complete kind.IriRef)
iri_step group.Backslash = Some (Delimited (delimited.Backslash within.Iri))
iri_step g = cond (is_iri_group g) (Some (Delimited (delimited.Inside within.Iri))) None

abbrev pub short_char : Quote → CharGroup → Option State
short_char q group.LineEnd = None
short_char q group.Backslash = Some (Delimited (delimited.Backslash (within.Short q)))
short_char q g = Some (Delimited (delimited.Inside (within.Short q)))

abbrev pub long_char : Quote → CharGroup → State
long_char q group.Backslash = Delimited (delimited.Backslash (within.Long q))
long_char q g = Delimited (delimited.Inside (within.Long q))

unfoldable pub inside_step : Within → CharGroup → Option State
inside_step within.Iri g = iri_step g
inside_step (within.Short q) g = cond (closes q g) (Some (Complete kind.String)) (short_char q g)
inside_step (within.Long q) g = cond (closes q g) (Some (Delimited (delimited.OneQuote q))) (Some (long_char q g))

-- ECHAR stands in strings alone
abbrev pub is_string : Within → Bool
is_string within.Iri = false
is_string w = true

unfoldable pub escape_step : Within → CharGroup → Option DelimitedState
escape_step w (group.Letter role.LowerU) = Some (delimited.Hex w 3)
escape_step w (group.Letter role.UpperU) = Some (delimited.Hex w 7)
escape_step w g = cond (is_string w && is_string_escape g) (Some (delimited.Inside w)) None

abbrev pub after_hex : Within → ℕ → DelimitedState
after_hex w zero = delimited.Inside w
after_hex w (suc n) = delimited.Hex w n

unfoldable pub delimited_step : DelimitedState → CharGroup → Option State
delimited_step (delimited.Open q) g = cond (closes q g) (Some (Delimited (delimited.Empty q))) (short_char q g)
delimited_step (delimited.Empty q) g = cond (closes q g) (Some (Delimited (delimited.Inside (within.Long q)))) None
delimited_step (delimited.Inside w) g = inside_step w g
delimited_step (delimited.OneQuote q) g =
    cond (closes q g) (Some (Delimited (delimited.TwoQuotes q))) (Some (long_char q g))
delimited_step (delimited.TwoQuotes q) g = cond (closes q g) (Some (Complete kind.String)) (Some (long_char q g))
delimited_step (delimited.Backslash w) g = option_map Delimited (escape_step w g)
delimited_step (delimited.Hex w more) g = cond (is_hex_digit g) (Some (Delimited (after_hex w more))) None

unfoldable pub step : State → CharGroup → Option State
step Start g = first_step g
step (Complete k) g = None
step (Number s) g = option_map Number (number_step s g)
step (Name s) g = option_map Name (name_step s g)
step (Label s) g = option_map Label (label_step s g)
step (Tag s) g = option_map Tag (tag_step s g)
step (Bracket s) g = bracket_step s g
step Caret g = caret_step g
step (Delimited s) g = delimited_step s g

-- ---- which token was read, where it may end here

abbrev pub number_out : NumberState → Option TokenKind
number_out number.Dot = Some kind.Dot
number_out number.Integer = Some kind.Integer
number_out number.Decimal = Some kind.Decimal
number_out number.Double = Some kind.Double
number_out s = None

abbrev pub name_out : NameState → Option TokenKind
name_out name.Word = Some kind.Word
name_out name.Colon = Some kind.PnameNs
name_out name.Local = Some kind.PnameLn
name_out s = None

abbrev pub label_out : LabelState → Option TokenKind
label_out label.Label = Some kind.BlankNodeLabel
label_out s = None

abbrev pub tag_out : TagState → Option TokenKind
tag_out tag.Language = Some kind.LangTag
tag_out tag.Subtag = Some kind.LangTag
tag_out s = None

abbrev pub bracket_out : BracketState → Option TokenKind
bracket_out bracket.Open = Some kind.OpenBracket
bracket_out s = None

abbrev pub delimited_out : DelimitedState → Option TokenKind
delimited_out (delimited.Empty q) = Some kind.String
delimited_out s = None

unfoldable pub out : State → Option TokenKind
out Start = None
out (Complete k) = Some k
out (Number s) = number_out s
out (Name s) = name_out s
out (Label s) = label_out s
out (Tag s) = tag_out s
out (Bracket s) = bracket_out s
out Caret = None
out (Delimited s) = delimited_out s

-- ---- the machine

abbrev pub step_char : State → ℕ → Option State
step_char s c = step s (group_at c)

-- the kind of the token at the front, and the characters behind it
abbrev pub token_at : List ℕ → Option (TokenKind × List ℕ)
token_at cs = munch step_char out Start cs
