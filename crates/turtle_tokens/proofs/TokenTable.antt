-- What is left of each form in each state, checked by computing: each line of `table` computes, for all kinds and
-- groups, the derivative of what is left in its state and what is left in the next state, and, for all kinds, whether
-- nothing has to follow; `refl` says that these are the same. The lines list the states, and were written as such. What
-- is left in a state is what the form leaves after some text that leads to the state (`path`), but for `Complete` and
-- `Hex`, whose fields have many values.
use Rattle.std.proofs.Common.{◌≡◌, ℕ, zero, suc, Bool, true, false, cond, List, [], ◌∷◌, ◌++◌, Option, Some, None, refl, ap, subst, eq-eqb, sym, ◌∙◌}
use Rattle.std.specs.Prelude.{map, ◌==◌, codes}
use Rattle.std.proofs.lemmas.Bool.{eqb-true}
use Rattle.regular_forms.specs.Regular.{Regular, Has, none, empty, one, star, ◌⨾◌, repeated, literal, is_char}
use Rattle.regular_forms.specs.Longest.{IsLongest}
use Rattle.regular_forms.proofs.Derivatives.{nullable, derive, after}
use Rattle.regular_forms.proofs.Alphabets.{derive-sample, fit_after}
use Rattle.regular_forms.proofs.Listed.{nth, agree}
use Rattle.regular_forms.proofs.Machines.{residual, Follows, munch-is_longest, one_kind}
use Rattle.rdf_grammar.specs.Productions.{is_base, is_name_start, is_name_char}
use Rattle.turtle_tokens.specs.declared.groups.CharGroup.{CharGroup}
use Rattle.turtle_tokens.specs.declared.groups.CharGroup.TheVariants as group
use Rattle.turtle_tokens.specs.declared.groups.LetterRole.TheVariants as role
use Rattle.turtle_tokens.specs.declared.kinds.TokenKind.{TokenKind}
use Rattle.turtle_tokens.specs.declared.kinds.TokenKind.TheVariants as kind
use Rattle.turtle_tokens.specs.declared.states.NumberState.{NumberState}
use Rattle.turtle_tokens.specs.declared.states.NumberState.TheVariants as number
use Rattle.turtle_tokens.specs.declared.states.NameState.{NameState}
use Rattle.turtle_tokens.specs.declared.states.NameState.TheVariants as name
use Rattle.turtle_tokens.specs.declared.states.LabelState.{LabelState}
use Rattle.turtle_tokens.specs.declared.states.LabelState.TheVariants as label
use Rattle.turtle_tokens.specs.declared.states.TagState.{TagState}
use Rattle.turtle_tokens.specs.declared.states.TagState.TheVariants as tag
use Rattle.turtle_tokens.specs.declared.filling.FillingState.TheVariants.{Between, Comment}
use Rattle.turtle_tokens.specs.declared.states.BracketState.{BracketState}
use Rattle.turtle_tokens.specs.declared.states.BracketState.TheVariants as bracket
use Rattle.turtle_tokens.specs.declared.states.Quote.{Quote}
use Rattle.turtle_tokens.specs.declared.states.Quote.TheVariants as quote
use Rattle.turtle_tokens.specs.declared.states.Within.{Within}
use Rattle.turtle_tokens.specs.declared.states.Within.TheVariants as within
use Rattle.turtle_tokens.specs.declared.states.DelimitedState.{DelimitedState}
use Rattle.turtle_tokens.specs.declared.states.DelimitedState.TheVariants as delimited
use Rattle.turtle_tokens.specs.declared.states.State.{State}
use Rattle.turtle_tokens.specs.declared.states.State.TheVariants.{Start, Complete, Number, Name, Label, Tag, Bracket, Caret, Delimited}
use Rattle.turtle_tokens.specs.Filling.{filling_step}
use Rattle.turtle_tokens.specs.Groups.{letter_role, mark_group, ascii_group, group_at}
use Rattle.turtle_tokens.specs.States.{first_step, number_step, name_step, label_step, tag_step, bracket_step, inside_step, escape_step, delimited_step, step, out, step_char, token_at}
use Rattle.turtle_tokens.specs.Tokens.{hex, iri_part, short_part, long_part, form}
use Rattle.turtle_tokens.proofs.Samples.{sample, AllFitGroups, fits_hex, fit_repeated, fit_iri_part, fit_short_part, fit_long_part, fit_quote, fit_long_quote, fit_literal, fit_form}

-- ---- kinds and groups, listed

abbrev kinds : List TokenKind
kinds =
    kind.Dot ∷ kind.Comma ∷ kind.Semicolon ∷ kind.OpenBracket ∷ kind.CloseBracket ∷ kind.OpenParen
    ∷ kind.CloseParen ∷ kind.DoubleCaret ∷ kind.Anon ∷ kind.IriRef ∷ kind.PnameNs ∷ kind.PnameLn
    ∷ kind.BlankNodeLabel ∷ kind.LangTag ∷ kind.String ∷ kind.Integer ∷ kind.Decimal ∷ kind.Double
    ∷ kind.Word ∷ []

abbrev place_of_kind : TokenKind → ℕ
place_of_kind kind.Dot = 0
place_of_kind kind.Comma = 1
place_of_kind kind.Semicolon = 2
place_of_kind kind.OpenBracket = 3
place_of_kind kind.CloseBracket = 4
place_of_kind kind.OpenParen = 5
place_of_kind kind.CloseParen = 6
place_of_kind kind.DoubleCaret = 7
place_of_kind kind.Anon = 8
place_of_kind kind.IriRef = 9
place_of_kind kind.PnameNs = 10
place_of_kind kind.PnameLn = 11
place_of_kind kind.BlankNodeLabel = 12
place_of_kind kind.LangTag = 13
place_of_kind kind.String = 14
place_of_kind kind.Integer = 15
place_of_kind kind.Decimal = 16
place_of_kind kind.Double = 17
place_of_kind kind.Word = 18

kind_found : (k : TokenKind) → nth kind.Dot (place_of_kind k) kinds ≡ k
kind_found kind.Dot = refl
kind_found kind.Comma = refl
kind_found kind.Semicolon = refl
kind_found kind.OpenBracket = refl
kind_found kind.CloseBracket = refl
kind_found kind.OpenParen = refl
kind_found kind.CloseParen = refl
kind_found kind.DoubleCaret = refl
kind_found kind.Anon = refl
kind_found kind.IriRef = refl
kind_found kind.PnameNs = refl
kind_found kind.PnameLn = refl
kind_found kind.BlankNodeLabel = refl
kind_found kind.LangTag = refl
kind_found kind.String = refl
kind_found kind.Integer = refl
kind_found kind.Decimal = refl
kind_found kind.Double = refl
kind_found kind.Word = refl

abbrev pub groups : List CharGroup
groups =
    group.Blank ∷ group.LineEnd ∷ group.DoubleQuote ∷ group.SingleQuote ∷ group.Hash ∷ group.Percent
    ∷ group.OpenParen ∷ group.CloseParen ∷ group.Plus ∷ group.Comma ∷ group.Minus ∷ group.Dot
    ∷ group.Colon ∷ group.Semicolon ∷ group.Less ∷ group.Greater ∷ group.At ∷ group.OpenBracket
    ∷ group.Backslash ∷ group.CloseBracket ∷ group.Caret ∷ group.Underscore ∷ group.Digit ∷ (group.Letter role.Hex)
    ∷ (group.Letter role.HexExponent) ∷ (group.Letter role.HexEscape) ∷ (group.Letter role.Escape) ∷ (group.Letter role.UpperU) ∷ (group.Letter role.LowerU) ∷ (group.Letter role.Plain)
    ∷ group.OnlyEscapable ∷ group.TextOnly ∷ group.NameStart ∷ group.NameInside ∷ group.Other ∷ []

abbrev place_of_group : CharGroup → ℕ
place_of_group group.Blank = 0
place_of_group group.LineEnd = 1
place_of_group group.DoubleQuote = 2
place_of_group group.SingleQuote = 3
place_of_group group.Hash = 4
place_of_group group.Percent = 5
place_of_group group.OpenParen = 6
place_of_group group.CloseParen = 7
place_of_group group.Plus = 8
place_of_group group.Comma = 9
place_of_group group.Minus = 10
place_of_group group.Dot = 11
place_of_group group.Colon = 12
place_of_group group.Semicolon = 13
place_of_group group.Less = 14
place_of_group group.Greater = 15
place_of_group group.At = 16
place_of_group group.OpenBracket = 17
place_of_group group.Backslash = 18
place_of_group group.CloseBracket = 19
place_of_group group.Caret = 20
place_of_group group.Underscore = 21
place_of_group group.Digit = 22
place_of_group (group.Letter role.Hex) = 23
place_of_group (group.Letter role.HexExponent) = 24
place_of_group (group.Letter role.HexEscape) = 25
place_of_group (group.Letter role.Escape) = 26
place_of_group (group.Letter role.UpperU) = 27
place_of_group (group.Letter role.LowerU) = 28
place_of_group (group.Letter role.Plain) = 29
place_of_group group.OnlyEscapable = 30
place_of_group group.TextOnly = 31
place_of_group group.NameStart = 32
place_of_group group.NameInside = 33
place_of_group group.Other = 34

group_found : (g : CharGroup) → nth group.Blank (place_of_group g) groups ≡ g
group_found group.Blank = refl
group_found group.LineEnd = refl
group_found group.DoubleQuote = refl
group_found group.SingleQuote = refl
group_found group.Hash = refl
group_found group.Percent = refl
group_found group.OpenParen = refl
group_found group.CloseParen = refl
group_found group.Plus = refl
group_found group.Comma = refl
group_found group.Minus = refl
group_found group.Dot = refl
group_found group.Colon = refl
group_found group.Semicolon = refl
group_found group.Less = refl
group_found group.Greater = refl
group_found group.At = refl
group_found group.OpenBracket = refl
group_found group.Backslash = refl
group_found group.CloseBracket = refl
group_found group.Caret = refl
group_found group.Underscore = refl
group_found group.Digit = refl
group_found (group.Letter role.Hex) = refl
group_found (group.Letter role.HexExponent) = refl
group_found (group.Letter role.HexEscape) = refl
group_found (group.Letter role.Escape) = refl
group_found (group.Letter role.UpperU) = refl
group_found (group.Letter role.LowerU) = refl
group_found (group.Letter role.Plain) = refl
group_found group.OnlyEscapable = refl
group_found group.TextOnly = refl
group_found group.NameStart = refl
group_found group.NameInside = refl
group_found group.Other = refl

pub agree_on_groups : (f g : CharGroup → Regular) → map f groups ≡ map g groups → (i : CharGroup) → f i ≡ g i
agree_on_groups f g e i = agree group.Blank groups place_of_group group_found f g (ap (nth none 0) e) e i

-- ---- what is left

abbrev number_path : NumberState → List ℕ
number_path number.Sign = codes "+"
number_path number.Dot = codes "."
number_path number.SignDot = codes "+."
number_path number.Integer = codes "0"
number_path number.IntegerDot = codes "0."
number_path number.Decimal = codes ".0"
number_path number.Exponent = codes "0e"
number_path number.ExponentSign = codes "0e+"
number_path number.Double = codes "0e0"

abbrev name_path : NameState → List ℕ
name_path name.Word = codes "a"
name_path name.Prefix = 192 ∷ []
name_path name.PrefixDots = codes "a."
name_path name.Colon = codes ":"
name_path name.Local = codes ":a"
name_path name.LocalDots = codes ":a."
name_path (name.Percent true) = codes ":%"
name_path (name.Percent false) = codes ":a%"
name_path (name.PercentHex true) = codes ":%0"
name_path (name.PercentHex false) = codes ":a%0"
name_path (name.Backslash true) = 58 ∷ 92 ∷ []
name_path (name.Backslash false) = 58 ∷ 97 ∷ 92 ∷ []

abbrev label_path : LabelState → List ℕ
label_path label.Underscore = codes "_"
label_path label.Colon = codes "_:"
label_path label.Label = codes "_:a"
label_path label.Dots = codes "_:a."

abbrev tag_path : TagState → List ℕ
tag_path tag.At = codes "@"
tag_path tag.Language = codes "@a"
tag_path tag.Hyphen = codes "@a-"
tag_path tag.Subtag = codes "@a-a"

abbrev bracket_path : BracketState → List ℕ
bracket_path bracket.Open = codes "["
bracket_path (bracket.Filling Between) = codes "[ "
bracket_path (bracket.Filling Comment) = codes "[#"

abbrev mark_of : Quote → ℕ
mark_of quote.Double = 0x22
mark_of quote.Single = 0x27

abbrev opening : Within → List ℕ
opening within.Iri = codes "<"
opening (within.Short q) = mark_of q ∷ codes "a"
opening (within.Long q) = mark_of q ∷ mark_of q ∷ mark_of q ∷ []

-- of `Hex` it isn't asked
abbrev delimited_path : DelimitedState → List ℕ
delimited_path (delimited.Open q) = mark_of q ∷ []
delimited_path (delimited.Empty q) = mark_of q ∷ mark_of q ∷ []
delimited_path (delimited.Inside w) = opening w
delimited_path (delimited.OneQuote q) = mark_of q ∷ mark_of q ∷ mark_of q ∷ mark_of q ∷ []
delimited_path (delimited.TwoQuotes q) = mark_of q ∷ mark_of q ∷ mark_of q ∷ mark_of q ∷ mark_of q ∷ []
delimited_path (delimited.Backslash w) = opening w ++ 0x5C ∷ []
delimited_path (delimited.Hex w more) = []

abbrev path : State → List ℕ
path Start = []
path (Complete k) = []
path (Number s) = number_path s
path (Name s) = name_path s
path (Label s) = label_path s
path (Tag s) = tag_path s
path (Bracket s) = bracket_path s
path Caret = codes "^"
path (Delimited s) = delimited_path s

abbrev is_kind : Option TokenKind → TokenKind → Bool
is_kind None k = false
is_kind (Some j) k = place_of_kind j == place_of_kind k

-- one hexadecimal digit and so many more, and then the rest of the IRIREF or string
abbrev hex_left : Within → ℕ → TokenKind → Regular
hex_left within.Iri more kind.IriRef = (repeated more hex ⨾ star iri_part) ⨾ literal (codes ">")
hex_left (within.Short q) more kind.String = (repeated more hex ⨾ star (short_part (mark_of q))) ⨾ one (is_char (mark_of q))
hex_left (within.Long q) more kind.String = (repeated more hex ⨾ star (long_part (mark_of q))) ⨾ literal (mark_of q ∷ mark_of q ∷ mark_of q ∷ [])
hex_left w more k = none

abbrev left_of : State → TokenKind → Regular
left_of (Complete j) k = cond (is_kind (Some j) k) empty none
left_of (Delimited (delimited.Hex w more)) k = hex_left w more k
left_of s k = after (path s) (form k)

-- ---- the table

abbrev derivatives : State → List (List Regular)
derivatives s = map (λ k. map (λ g. derive (left_of s k) (sample g)) groups) kinds

abbrev residuals : State → List (List Regular)
residuals s = map (λ k. map (λ g. residual left_of (step s g) k) groups) kinds

abbrev nothing_left : State → List Bool
nothing_left s = map (λ k. nullable (left_of s k)) kinds

abbrev has_kind : State → List Bool
has_kind s = map (λ k. is_kind (out s) k) kinds

table : (s : State) → (derivatives s ≡ residuals s) × (nothing_left s ≡ has_kind s)
unfolding step first_step number_step name_step label_step tag_step filling_step bracket_step inside_step escape_step delimited_step out is_base is_name_start is_name_char
table Start = (refl, refl)
table (Complete kind.Dot) = (refl, refl)
table (Complete kind.Comma) = (refl, refl)
table (Complete kind.Semicolon) = (refl, refl)
table (Complete kind.OpenBracket) = (refl, refl)
table (Complete kind.CloseBracket) = (refl, refl)
table (Complete kind.OpenParen) = (refl, refl)
table (Complete kind.CloseParen) = (refl, refl)
table (Complete kind.DoubleCaret) = (refl, refl)
table (Complete kind.Anon) = (refl, refl)
table (Complete kind.IriRef) = (refl, refl)
table (Complete kind.PnameNs) = (refl, refl)
table (Complete kind.PnameLn) = (refl, refl)
table (Complete kind.BlankNodeLabel) = (refl, refl)
table (Complete kind.LangTag) = (refl, refl)
table (Complete kind.String) = (refl, refl)
table (Complete kind.Integer) = (refl, refl)
table (Complete kind.Decimal) = (refl, refl)
table (Complete kind.Double) = (refl, refl)
table (Complete kind.Word) = (refl, refl)
table (Number number.Sign) = (refl, refl)
table (Number number.Dot) = (refl, refl)
table (Number number.SignDot) = (refl, refl)
table (Number number.Integer) = (refl, refl)
table (Number number.IntegerDot) = (refl, refl)
table (Number number.Decimal) = (refl, refl)
table (Number number.Exponent) = (refl, refl)
table (Number number.ExponentSign) = (refl, refl)
table (Number number.Double) = (refl, refl)
table (Name name.Word) = (refl, refl)
table (Name name.Prefix) = (refl, refl)
table (Name name.PrefixDots) = (refl, refl)
table (Name name.Colon) = (refl, refl)
table (Name name.Local) = (refl, refl)
table (Name name.LocalDots) = (refl, refl)
table (Name (name.Percent true)) = (refl, refl)
table (Name (name.Percent false)) = (refl, refl)
table (Name (name.PercentHex true)) = (refl, refl)
table (Name (name.PercentHex false)) = (refl, refl)
table (Name (name.Backslash true)) = (refl, refl)
table (Name (name.Backslash false)) = (refl, refl)
table (Label label.Underscore) = (refl, refl)
table (Label label.Colon) = (refl, refl)
table (Label label.Label) = (refl, refl)
table (Label label.Dots) = (refl, refl)
table (Tag tag.At) = (refl, refl)
table (Tag tag.Language) = (refl, refl)
table (Tag tag.Hyphen) = (refl, refl)
table (Tag tag.Subtag) = (refl, refl)
table (Bracket bracket.Open) = (refl, refl)
table (Bracket (bracket.Filling Between)) = (refl, refl)
table (Bracket (bracket.Filling Comment)) = (refl, refl)
table Caret = (refl, refl)
table (Delimited (delimited.Open quote.Double)) = (refl, refl)
table (Delimited (delimited.Open quote.Single)) = (refl, refl)
table (Delimited (delimited.Empty quote.Double)) = (refl, refl)
table (Delimited (delimited.Empty quote.Single)) = (refl, refl)
table (Delimited (delimited.Inside within.Iri)) = (refl, refl)
table (Delimited (delimited.Inside (within.Short quote.Double))) = (refl, refl)
table (Delimited (delimited.Inside (within.Short quote.Single))) = (refl, refl)
table (Delimited (delimited.Inside (within.Long quote.Double))) = (refl, refl)
table (Delimited (delimited.Inside (within.Long quote.Single))) = (refl, refl)
table (Delimited (delimited.OneQuote quote.Double)) = (refl, refl)
table (Delimited (delimited.OneQuote quote.Single)) = (refl, refl)
table (Delimited (delimited.TwoQuotes quote.Double)) = (refl, refl)
table (Delimited (delimited.TwoQuotes quote.Single)) = (refl, refl)
table (Delimited (delimited.Backslash within.Iri)) = (refl, refl)
table (Delimited (delimited.Backslash (within.Short quote.Double))) = (refl, refl)
table (Delimited (delimited.Backslash (within.Short quote.Single))) = (refl, refl)
table (Delimited (delimited.Backslash (within.Long quote.Double))) = (refl, refl)
table (Delimited (delimited.Backslash (within.Long quote.Single))) = (refl, refl)
table (Delimited (delimited.Hex within.Iri zero)) = (refl, refl)
table (Delimited (delimited.Hex within.Iri (suc zero))) = (refl, refl)
table (Delimited (delimited.Hex within.Iri (suc (suc more)))) = (refl, refl)
table (Delimited (delimited.Hex (within.Short quote.Double) zero)) = (refl, refl)
table (Delimited (delimited.Hex (within.Short quote.Double) (suc zero))) = (refl, refl)
table (Delimited (delimited.Hex (within.Short quote.Double) (suc (suc more)))) = (refl, refl)
table (Delimited (delimited.Hex (within.Short quote.Single) zero)) = (refl, refl)
table (Delimited (delimited.Hex (within.Short quote.Single) (suc zero))) = (refl, refl)
table (Delimited (delimited.Hex (within.Short quote.Single) (suc (suc more)))) = (refl, refl)
table (Delimited (delimited.Hex (within.Long quote.Double) zero)) = (refl, refl)
table (Delimited (delimited.Hex (within.Long quote.Double) (suc zero))) = (refl, refl)
table (Delimited (delimited.Hex (within.Long quote.Double) (suc (suc more)))) = (refl, refl)
table (Delimited (delimited.Hex (within.Long quote.Single) zero)) = (refl, refl)
table (Delimited (delimited.Hex (within.Long quote.Single) (suc zero))) = (refl, refl)
table (Delimited (delimited.Hex (within.Long quote.Single) (suc (suc more)))) = (refl, refl)

-- ---- so the machine reads exactly the tokens

steps_by : (s : State) (k : TokenKind) (g : CharGroup) → derive (left_of s k) (sample g) ≡ residual left_of (step s g) k
steps_by s k g =
    let rows = agree kind.Dot kinds place_of_kind kind_found (λ j. map (λ i. derive (left_of s j) (sample i)) groups) (λ j. map (λ i. residual left_of (step s i) j) groups) (ap (nth [] 0) (table s).0) (table s).0 k in
    agree_on_groups (λ i. derive (left_of s k) (sample i)) (λ i. residual left_of (step s i) k) rows g

done_by : (s : State) (k : TokenKind) → nullable (left_of s k) ≡ is_kind (out s) k
done_by s k = agree kind.Dot kinds place_of_kind kind_found (λ j. nullable (left_of s j)) (λ j. is_kind (out s) j) (ap (nth false 0) (table s).1) (table s).1 k

kind_at : (o : Option TokenKind) (k : TokenKind) → o ≡ Some k → is_kind o k ≡ true
kind_at o k e = ap (λ (x : Option TokenKind). is_kind x k) e ∙ eq-eqb (place_of_kind k) (place_of_kind k) refl

same_kind : (j k : TokenKind) → place_of_kind j ≡ place_of_kind k → j ≡ k
same_kind j k e = sym (kind_found j) ∙ ap (λ (n : ℕ). nth kind.Dot n kinds) e ∙ kind_found k

kind_is : (o : Option TokenKind) (k : TokenKind) → is_kind o k ≡ true → o ≡ Some k
kind_is None k h = absurd cc
kind_is (Some j) k h = ap (λ (x : TokenKind). Some x) (same_kind j k (eqb-true (place_of_kind j) (place_of_kind k) h))

fit_if : (b : Bool) → AllFitGroups (cond b empty none)
fit_if true = tt
fit_if false = tt

fit_hex_left : (w : Within) (more : ℕ) (k : TokenKind) → AllFitGroups (hex_left w more k)
unfolding letter_role mark_group ascii_group
fit_hex_left within.Iri more kind.IriRef = ((fit_repeated more hex fits_hex, fit_iri_part), fit_literal (codes ">") refl)
fit_hex_left (within.Short quote.Double) more kind.String = ((fit_repeated more hex fits_hex, fit_short_part 0x22 refl), fit_quote 0x22 refl)
fit_hex_left (within.Short quote.Single) more kind.String = ((fit_repeated more hex fits_hex, fit_short_part 0x27 refl), fit_quote 0x27 refl)
fit_hex_left (within.Long quote.Double) more kind.String = ((fit_repeated more hex fits_hex, fit_long_part 0x22 refl), fit_long_quote 0x22 refl)
fit_hex_left (within.Long quote.Single) more kind.String = ((fit_repeated more hex fits_hex, fit_long_part 0x27 refl), fit_long_quote 0x27 refl)
fit_hex_left w more k = tt

fit_path : (cs : List ℕ) (k : TokenKind) → AllFitGroups (after cs (form k))
fit_path cs k = fit_after group_at sample cs (form k) (fit_form k)

fit_left : (s : State) (k : TokenKind) → AllFitGroups (left_of s k)
fit_left (Complete j) k = fit_if (is_kind (Some j) k)
fit_left (Delimited (delimited.Hex w more)) k = fit_hex_left w more k
fit_left s k = fit_path (path s) k

follows : Follows step_char out left_of
follows = record {
  steps = λ s k c. derive-sample group_at sample (left_of s k) (fit_left s k) c ∙ steps_by s k (group_at c);
  ends = λ s k e. done_by s k ∙ kind_at (out s) k e;
  only = λ s k e. kind_is (out s) k (sym (done_by s k) ∙ e);
}

pub token_at-is_longest : (cs : List ℕ) → IsLongest form cs (token_at cs)
token_at-is_longest cs = munch-is_longest step_char out left_of follows Start cs

-- a text is of one kind
pub form-one_kind : (text : List ℕ) (j k : TokenKind) → Has (form j) text → Has (form k) text → j ≡ k
form-one_kind text j k h i = one_kind step_char out left_of follows Start text j k h i

-- no form has the empty text
pub form-nullable : (k : TokenKind) → nullable (form k) ≡ false
unfolding out
form-nullable k = done_by Start k

pub is_longest : (cs : List ℕ) (o : Option (TokenKind × List ℕ)) → o ≡ token_at cs → IsLongest form cs o
is_longest cs o e = subst (λ (x : Option (TokenKind × List ℕ)). IsLongest form cs x) (sym e) (token_at-is_longest cs)

pub out-start : out Start ≡ None
unfolding out
out-start = refl
