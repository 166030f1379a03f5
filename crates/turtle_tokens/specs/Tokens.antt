-- The tokens of Turtle as regular forms over code points. The names and numbers of the productions are those of
-- RDF 1.1 Turtle, section 6.5.
use Rattle.std.specs.Prelude.{ℕ, ◌==◌, Bool, not, ◌||◌, [], ◌∷◌, codes}
use Rattle.std.specs.Int.{is_in_range}
use Rattle.std.specs.Char.{is_ascii_digit, is_ascii_alphabetic, is_ascii_alphanumeric}
use Rattle.regular_forms.specs.Regular.{Regular, one, star, ◌⨾◌, ◌∣◌, maybe, some, literal, is_char, is_in}
use Rattle.regular_forms.specs.Regular.{is_not_in}
use Rattle.rdf_grammar.specs.declared.dialect.Dialect.TheVariants.{Turtle}
use Rattle.rdf_grammar.specs.Productions.{is_hex, is_escape, is_base, is_name_start, is_name_char}
use Rattle.turtle_tokens.specs.declared.kinds.TokenKind.{TokenKind}
use Rattle.turtle_tokens.specs.declared.kinds.TokenKind.TheVariants.{Dot, Comma, Semicolon, OpenBracket, CloseBracket}
use Rattle.turtle_tokens.specs.declared.kinds.TokenKind.TheVariants.{OpenParen, CloseParen, DoubleCaret, Anon, IriRef}
use Rattle.turtle_tokens.specs.declared.kinds.TokenKind.TheVariants.{PnameNs, PnameLn, BlankNodeLabel, LangTag, String}
use Rattle.turtle_tokens.specs.declared.kinds.TokenKind.TheVariants.{Integer, Decimal, Double, Word}

-- ---- escapes. Which character a UCHAR names, if any, is no matter of the token

-- [171s] HEX ::= [0-9] | [A-F] | [a-f]
abbrev pub hex : Regular
hex = one is_hex

-- [26] UCHAR ::= '\u' HEX HEX HEX HEX | '\U' HEX HEX HEX HEX HEX HEX HEX HEX
abbrev pub uchar : Regular
uchar =
    literal (codes "\\u") ⨾ hex ⨾ hex ⨾ hex ⨾ hex
    ∣ literal (codes "\\U") ⨾ hex ⨾ hex ⨾ hex ⨾ hex ⨾ hex ⨾ hex ⨾ hex ⨾ hex

-- [159s] ECHAR ::= '\' [tbnrf"'\]
abbrev pub echar : Regular
echar = literal (codes "\\") ⨾ one is_escape

-- ---- IRIs

-- [18] IRIREF ::= '<' ([^#x00-#x20<>"{}|^`\] | UCHAR)* '>'
abbrev pub is_iri_char : ℕ → Bool
is_iri_char c = not (is_in_range 0 0x20 c || is_in (codes "<>\"{}|^`\\") c)

abbrev pub iri_part : Regular
iri_part = one is_iri_char ∣ uchar

abbrev pub iriref : Regular
iriref = literal (codes "<") ⨾ star iri_part ⨾ literal (codes ">")

-- ---- prefixed names

-- PN_CHARS or a dot, and the same with a colon; PN_CHARS_BASE is `is_base`, [164s] PN_CHARS_U `is_name_start Turtle`
-- and [166s] PN_CHARS `is_name_char Turtle`
abbrev pub is_inside_prefix : ℕ → Bool
is_inside_prefix c = is_name_char Turtle c || (c == 46)

abbrev pub is_inside_local : ℕ → Bool
is_inside_local c = is_name_char Turtle c || (c == 46) || (c == 58)

-- [167s] PN_PREFIX ::= PN_CHARS_BASE ((PN_CHARS | '.')* PN_CHARS)?
abbrev pub pn_prefix : Regular
pn_prefix = one is_base ⨾ maybe (star (one is_inside_prefix) ⨾ one (is_name_char Turtle))

-- [139s] PNAME_NS ::= PN_PREFIX? ':'
abbrev pub pname_ns : Regular
pname_ns = maybe pn_prefix ⨾ literal (codes ":")

-- [169s] PLX ::= PERCENT | PN_LOCAL_ESC, [170s] PERCENT ::= '%' HEX HEX,
-- [172s] PN_LOCAL_ESC ::= '\' ('_' | '~' | '.' | '-' | '!' | '$' | '&' | "'" | '(' | ')' | '*' | '+' | ',' | ';' | '='
-- | '/' | '?' | '#' | '@' | '%')
abbrev pub plx : Regular
plx = literal (codes "%") ⨾ hex ⨾ hex ∣ literal (codes "\\") ⨾ one (is_in (codes "_~.-!$&'()*+,;=/?#@%"))

-- [168s] PN_LOCAL ::= (PN_CHARS_U | ':' | [0-9] | PLX) ((PN_CHARS | '.' | ':' | PLX)* (PN_CHARS | ':' | PLX))?
abbrev pub begins_local : ℕ → Bool
begins_local c = is_name_start Turtle c || (c == 58) || is_ascii_digit c

abbrev pub ends_local : ℕ → Bool
ends_local c = is_name_char Turtle c || (c == 58)

abbrev pub pn_local : Regular
pn_local = (one begins_local ∣ plx) ⨾ maybe (star (one is_inside_local ∣ plx) ⨾ (one ends_local ∣ plx))

-- [140s] PNAME_LN ::= PNAME_NS PN_LOCAL
abbrev pub pname_ln : Regular
pname_ln = pname_ns ⨾ pn_local

-- ---- labels and language tags

-- [141s] BLANK_NODE_LABEL ::= '_:' (PN_CHARS_U | [0-9]) ((PN_CHARS | '.')* PN_CHARS)?
abbrev pub begins_label : ℕ → Bool
begins_label c = is_name_start Turtle c || is_ascii_digit c

abbrev pub blank_node_label : Regular
blank_node_label =
    literal (codes "_:") ⨾ one begins_label ⨾ maybe (star (one is_inside_prefix) ⨾ one (is_name_char Turtle))

-- [144s] LANGTAG ::= '@' [a-zA-Z]+ ('-' [a-zA-Z0-9]+)*
abbrev pub langtag : Regular
langtag =
    literal (codes "@") ⨾ some (one is_ascii_alphabetic)
    ⨾ star (literal (codes "-") ⨾ some (one is_ascii_alphanumeric))

-- ---- strings

-- [22] STRING_LITERAL_QUOTE ::= '"' ([^#x22#x5C#xA#xD] | ECHAR | UCHAR)* '"', and
-- [23] STRING_LITERAL_SINGLE_QUOTE with "'" (#x27) in the place of '"'
abbrev pub short_part : ℕ → Regular
short_part q = one (is_not_in (q ∷ 0x5C ∷ 0xA ∷ 0xD ∷ [])) ∣ echar ∣ uchar

abbrev pub short_string : ℕ → Regular
short_string q = one (is_char q) ⨾ star (short_part q) ⨾ one (is_char q)

-- [25] STRING_LITERAL_LONG_QUOTE ::= '"""' (('"' | '""')? ([^"\] | ECHAR | UCHAR))* '"""', and
-- [24] STRING_LITERAL_LONG_SINGLE_QUOTE with "'"
abbrev pub long_part : ℕ → Regular
long_part q = maybe (one (is_char q) ∣ literal (q ∷ q ∷ [])) ⨾ (one (is_not_in (q ∷ 0x5C ∷ [])) ∣ echar ∣ uchar)

abbrev pub long_string : ℕ → Regular
long_string q = literal (q ∷ q ∷ q ∷ []) ⨾ star (long_part q) ⨾ literal (q ∷ q ∷ q ∷ [])

-- [17] String
abbrev pub string : Regular
string = short_string 0x22 ∣ short_string 0x27 ∣ long_string 0x27 ∣ long_string 0x22

-- ---- numbers

-- [19] INTEGER ::= [+-]? [0-9]+
abbrev pub digit : Regular
digit = one is_ascii_digit

abbrev pub sign : Regular
sign = maybe (one (is_in (codes "+-")))

abbrev pub integer : Regular
integer = sign ⨾ some digit

-- [20] DECIMAL ::= [+-]? [0-9]* '.' [0-9]+
abbrev pub decimal : Regular
decimal = sign ⨾ star digit ⨾ literal (codes ".") ⨾ some digit

-- [154s] EXPONENT ::= [eE] [+-]? [0-9]+
abbrev pub exponent : Regular
exponent = one (is_in (codes "eE")) ⨾ sign ⨾ some digit

-- [21] DOUBLE ::= [+-]? ([0-9]+ '.' [0-9]* EXPONENT | '.' [0-9]+ EXPONENT | [0-9]+ EXPONENT)
abbrev pub double : Regular
double =
    sign ⨾ (some digit ⨾ literal (codes ".") ⨾ star digit ⨾ exponent ∣ literal (codes ".") ⨾ some digit ⨾ exponent
    ∣ some digit ⨾ exponent)

-- ---- filling: white space and comments (sections 6.1 and 6.2)

-- [161s] WS ::= #x20 | #x9 | #xD | #xA
abbrev pub is_ws : ℕ → Bool
is_ws = is_in (0x20 ∷ 0x9 ∷ 0xD ∷ 0xA ∷ [])

abbrev pub is_line_end : ℕ → Bool
is_line_end = is_in (0xD ∷ 0xA ∷ [])

-- a comment, without the end of its line
abbrev pub comment : Regular
comment = literal (codes "#") ⨾ star (one (is_not_in (0xD ∷ 0xA ∷ [])))

-- whose comments all have the end of their line, and whose last comment runs to the end of the document
abbrev pub closed_filling : Regular
closed_filling = star (one is_ws ∣ comment ⨾ one is_line_end)

abbrev pub last_filling : Regular
last_filling = closed_filling ⨾ comment

-- [162s] ANON ::= '[' WS* ']', where comments count as white space
abbrev pub anon : Regular
anon = literal (codes "[") ⨾ closed_filling ⨾ literal (codes "]")

-- ---- all tokens

-- the keywords 'a', 'true', 'false', PREFIX and BASE: ASCII letters
abbrev pub word : Regular
word = some (one is_ascii_alphabetic)

abbrev pub form : TokenKind → Regular
form Dot = literal (codes ".")
form Comma = literal (codes ",")
form Semicolon = literal (codes ";")
form OpenBracket = literal (codes "[")
form CloseBracket = literal (codes "]")
form OpenParen = literal (codes "(")
form CloseParen = literal (codes ")")
form DoubleCaret = literal (codes "^^")
form Anon = anon
form IriRef = iriref
form PnameNs = pname_ns
form PnameLn = pname_ln
form BlankNodeLabel = blank_node_label
form LangTag = langtag
form String = string
form Integer = integer
form Decimal = decimal
form Double = double
form Word = word
