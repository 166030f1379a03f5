-- Groups of characters that all forms of tokens treat alike. Private functions cite it.
use Rattle.std.specs.Prelude.{ℕ, ◌==◌, Bool, true, false, cond, nat_lt, codes}
use Rattle.std.specs.Char.{is_ascii_digit, is_ascii_alphabetic}
use Rattle.regular_forms.specs.Regular.{is_in}
use Rattle.rdf_grammar.specs.declared.dialect.Dialect.TheVariants.{Turtle}
use Rattle.rdf_grammar.specs.Productions.{is_base, is_name_char}
use Rattle.turtle_tokens.specs.declared.groups.LetterRole.{LetterRole}
use Rattle.turtle_tokens.specs.declared.groups.LetterRole.TheVariants.{Hex, HexExponent, HexEscape, Escape, UpperU}
use Rattle.turtle_tokens.specs.declared.groups.LetterRole.TheVariants.{LowerU, Plain}
use Rattle.turtle_tokens.specs.declared.groups.CharGroup.{CharGroup}
use Rattle.turtle_tokens.specs.declared.groups.CharGroup.TheVariants.{Blank, LineEnd, DoubleQuote, SingleQuote, Hash}
use Rattle.turtle_tokens.specs.declared.groups.CharGroup.TheVariants.{Percent, OpenParen, CloseParen, Plus, Comma}
use Rattle.turtle_tokens.specs.declared.groups.CharGroup.TheVariants.{Minus, Dot, Colon, Semicolon, Less, Greater, At}
use Rattle.turtle_tokens.specs.declared.groups.CharGroup.TheVariants.{OpenBracket, Backslash, CloseBracket, Caret}
use Rattle.turtle_tokens.specs.declared.groups.CharGroup.TheVariants.{Underscore, Digit, Letter, OnlyEscapable}
use Rattle.turtle_tokens.specs.declared.groups.CharGroup.TheVariants.{TextOnly, NameStart, NameInside, Other}

unfoldable pub letter_role : ℕ → LetterRole
letter_role c =
    cond (is_in (codes "Ee") c) HexExponent (
    cond (is_in (codes "bf") c) HexEscape (
    cond (is_in (codes "ABCDFacd") c) Hex (
    cond (is_in (codes "nrt") c) Escape (
    cond (c == 85) UpperU (
    cond (c == 117) LowerU Plain)))))

-- of an ASCII character that is no letter and no digit
unfoldable pub mark_group : ℕ → CharGroup
mark_group c =
    cond (is_in (codes "\t ") c) Blank (
    cond (is_in (codes "\n\r") c) LineEnd (
    cond (c == 34) DoubleQuote (
    cond (c == 39) SingleQuote (
    cond (c == 35) Hash (
    cond (c == 37) Percent (
    cond (c == 40) OpenParen (
    cond (c == 41) CloseParen (
    cond (c == 43) Plus (
    cond (c == 44) Comma (
    cond (c == 45) Minus (
    cond (c == 46) Dot (
    cond (c == 58) Colon (
    cond (c == 59) Semicolon (
    cond (c == 60) Less (
    cond (c == 62) Greater (
    cond (c == 64) At (
    cond (c == 91) OpenBracket (
    cond (c == 92) Backslash (
    cond (c == 93) CloseBracket (
    cond (c == 94) Caret (
    cond (c == 95) Underscore (
    cond (is_in (codes "!$&*/=?~") c) OnlyEscapable (
    cond (c == 127) Other TextOnly)))))))))))))))))))))))

unfoldable pub ascii_group : ℕ → CharGroup
ascii_group c = cond (is_ascii_alphabetic c) (Letter (letter_role c)) (cond (is_ascii_digit c) Digit (mark_group c))

unfoldable pub wide_group : ℕ → CharGroup
wide_group c = cond (is_base c) NameStart (cond (is_name_char Turtle c) NameInside Other)

unfoldable pub group_at : ℕ → CharGroup
group_at c = cond (nat_lt c 128) (ascii_group c) (wide_group c)

-- ---- the classes of the productions, by groups

abbrev pub is_hex_letter : LetterRole → Bool
is_hex_letter Hex = true
is_hex_letter HexExponent = true
is_hex_letter HexEscape = true
is_hex_letter r = false

-- HEX
abbrev pub is_hex_digit : CharGroup → Bool
is_hex_digit Digit = true
is_hex_digit (Letter r) = is_hex_letter r
is_hex_digit g = false

-- PN_CHARS_U
abbrev pub begins_name : CharGroup → Bool
begins_name (Letter r) = true
begins_name Underscore = true
begins_name NameStart = true
begins_name g = false

-- PN_CHARS
abbrev pub is_in_name : CharGroup → Bool
is_in_name (Letter r) = true
is_in_name Underscore = true
is_in_name NameStart = true
is_in_name Digit = true
is_in_name Minus = true
is_in_name NameInside = true
is_in_name g = false

-- what PN_LOCAL_ESC has behind its '\'
abbrev pub is_local_escape : CharGroup → Bool
is_local_escape Underscore = true
is_local_escape Dot = true
is_local_escape Minus = true
is_local_escape SingleQuote = true
is_local_escape OpenParen = true
is_local_escape CloseParen = true
is_local_escape Plus = true
is_local_escape Comma = true
is_local_escape Semicolon = true
is_local_escape Hash = true
is_local_escape At = true
is_local_escape Percent = true
is_local_escape OnlyEscapable = true
is_local_escape g = false

abbrev pub is_escape_letter : LetterRole → Bool
is_escape_letter Escape = true
is_escape_letter HexEscape = true
is_escape_letter r = false

-- what ECHAR has behind its '\'
abbrev pub is_string_escape : CharGroup → Bool
is_string_escape DoubleQuote = true
is_string_escape SingleQuote = true
is_string_escape Backslash = true
is_string_escape (Letter r) = is_escape_letter r
is_string_escape g = false

-- what IRIREF has between its '<' and '>', but for UCHAR
abbrev pub is_iri_group : CharGroup → Bool
is_iri_group Blank = false
is_iri_group LineEnd = false
is_iri_group DoubleQuote = false
is_iri_group Less = false
is_iri_group Greater = false
is_iri_group Backslash = false
is_iri_group Caret = false
is_iri_group TextOnly = false
is_iri_group g = true
