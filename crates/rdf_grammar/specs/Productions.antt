-- What N-Triples and Turtle share, over code points. The names and numbers of the productions are those of
-- RDF 1.1 N-Triples, section 7. RDF 1.1 Turtle, section 6.5, has the same under other numbers, but for the ':' of
-- PN_CHARS_U.
use Rattle.std.specs.Prelude.{◌≡◌, ℕ, ◌+◌, ◌*◌, ◌==◌, Bool, true, false, cond, not, ◌&&◌, ◌||◌, List, [], ◌∷◌, ◌++◌, codes}
use Rattle.std.specs.Int.{is_in_range}
use Rattle.std.specs.Char.{digit_value, is_digit, is_ascii_digit, is_ascii_alphabetic, is_ascii_alphanumeric}
use Rattle.std.specs.Str.{str_to_ascii_lowercase}
use Rattle.grammar_forms.specs.Forms.{Form, One, terminal, many, some, Made, Such, Where, Verbatim, silent, written, ◌⨾◌, ◌▹◌, ◌◃◌, ◌∣◌}
use Rattle.grammar_forms.specs.Names.{name_end}
use Rattle.rdf_grammar.specs.declared.dialect.Dialect.{Dialect}
use Rattle.rdf_grammar.specs.declared.dialect.Dialect.TheVariants.{NTriples, Turtle}

-- a Unicode scalar value
abbrev pub is_scalar : ℕ → Bool
is_scalar c = is_in_range 0 0xD7FF c || is_in_range 0xE000 0x10FFFF c

-- ---- escapes

-- [162s] HEX ::= [0-9] | [A-F] | [a-f]
abbrev pub is_hex : ℕ → Bool
is_hex c = is_digit c 16

abbrev pub hex : Form ℕ ℕ
hex = Made digit_value (One is_hex)

-- what two, four and eight of them mean
abbrev pub of_two : ℕ × ℕ → ℕ
of_two d = d.0 * 16 + d.1

abbrev pub of_pairs : ℕ × ℕ → ℕ
of_pairs d = d.0 * 256 + d.1

abbrev pub of_fours : ℕ × ℕ → ℕ
of_fours d = d.0 * 65536 + d.1

abbrev pub hex2 : Form ℕ ℕ
hex2 = Made of_two (hex ⨾ hex)

abbrev pub hex4 : Form ℕ ℕ
hex4 = Made of_pairs (hex2 ⨾ hex2)

abbrev pub hex8 : Form ℕ ℕ
hex8 = Made of_fours (hex4 ⨾ hex4)

-- [10] UCHAR ::= '\u' HEX HEX HEX HEX | '\U' HEX HEX HEX HEX HEX HEX HEX HEX, of a scalar value
abbrev pub uchar : Form ℕ ℕ
uchar = Such is_scalar (terminal (92 ∷ 117 ∷ []) ▹ hex4 ∣ terminal (92 ∷ 85 ∷ []) ▹ hex8)

-- [153s] ECHAR ::= '\' [tbnrf"'\]
abbrev pub is_escape : ℕ → Bool
is_escape c = (c == 116) || (c == 98) || (c == 110) || (c == 114) || (c == 102) || (c == 34) || (c == 39) || (c == 92)

abbrev pub escape_of : ℕ → ℕ
escape_of c = cond (c == 116) 9 (cond (c == 98) 8 (cond (c == 110) 10 (cond (c == 114) 13 (cond (c == 102) 12 c))))

abbrev pub echar : Form ℕ ℕ
echar = Made escape_of (terminal (92 ∷ []) ▹ One is_escape)

-- ---- IRIs

-- IRICHAR ::= [^#x00-#x20<>"{}|^`\]
unfoldable pub is_iri_char : ℕ → Bool
is_iri_char c =
    is_scalar c
    && not (is_in_range 0 0x20 c || (c == 60) || (c == 62) || (c == 34) || (c == 123) || (c == 125) || (c == 124)
    || (c == 94) || (c == 96) || (c == 92))

-- [8] IRIREF ::= '<' ([^#x00-#x20<>"{}|^`\] | UCHAR)* '>', where the UCHAR names an IRICHAR
abbrev pub iri_part : Form ℕ ℕ
iri_part = One is_iri_char ∣ Such is_iri_char uchar

abbrev pub iriref : Form ℕ (List ℕ)
iriref = terminal (codes "<") ▹ written (many iri_part) ◃ terminal (codes ">")

-- scheme ::= ALPHA ( ALPHA | DIGIT | "+" | "-" | "." )* (RFC 3986, section 3.1), and the ":" behind it
abbrev pub is_scheme_char : ℕ → Bool
is_scheme_char c = is_ascii_alphanumeric c || (c == 43) || (c == 45) || (c == 46)

abbrev pub scheme : Form ℕ (Unit {0})
scheme = One is_ascii_alphabetic ▹ silent (many (One is_scheme_char)) ◃ terminal (codes ":")

-- the text begins with a scheme, as an IRI does and a relative reference does not. A scheme is ASCII, so its
-- characters are its bytes
pub record BeginsWithScheme (text : List ℕ) : Type 0 where
  pub front : List ℕ
  pub rest : List ℕ
  pub parts : text ≡ front ++ rest
  pub is_scheme : scheme front tt

-- an IRIREF that is no relative reference
abbrev pub absolute_iri : Form ℕ (List ℕ)
absolute_iri = Where BeginsWithScheme iriref

-- ---- strings

-- [9] STRING_LITERAL_QUOTE ::= '"' ([^#x22#x5C#xA#xD] | ECHAR | UCHAR)* '"'
unfoldable pub is_string_char : ℕ → Bool
is_string_char c = is_scalar c && not ((c == 34) || (c == 92) || (c == 13) || (c == 10))

abbrev pub string_part : Form ℕ ℕ
string_part = One is_string_char ∣ echar ∣ uchar

abbrev pub string : Form ℕ (List ℕ)
string = terminal (34 ∷ []) ▹ written (many string_part) ◃ terminal (34 ∷ [])

-- ---- labels

-- [157s] PN_CHARS_BASE
unfoldable pub is_base : ℕ → Bool
is_base c =
    is_ascii_alphabetic c || is_in_range 0xC0 0xD6 c || is_in_range 0xD8 0xF6 c || is_in_range 0xF8 0x2FF c
    || is_in_range 0x370 0x37D c || is_in_range 0x37F 0x1FFF c || is_in_range 0x200C 0x200D c
    || is_in_range 0x2070 0x218F c || is_in_range 0x2C00 0x2FEF c || is_in_range 0x3001 0xD7FF c
    || is_in_range 0xF900 0xFDCF c || is_in_range 0xFDF0 0xFFFD c || is_in_range 0x10000 0xEFFFF c

-- N-Triples lets a colon into labels
abbrev pub has_colon : Dialect → Bool
has_colon NTriples = true
has_colon Turtle = false

-- [158s] PN_CHARS_U ::= PN_CHARS_BASE | '_' | ':', in Turtle without the ':'
unfoldable pub is_name_start : Dialect → ℕ → Bool
is_name_start d c = is_base c || (c == 95) || has_colon d && (c == 58)

-- [160s] PN_CHARS ::= PN_CHARS_U | '-' | [0-9] | #x00B7 | [#x0300-#x036F] | [#x203F-#x2040]
unfoldable pub is_name_char : Dialect → ℕ → Bool
is_name_char d c =
    is_name_start d c || (c == 45) || is_ascii_digit c || (c == 0xB7) || is_in_range 0x300 0x36F c
    || is_in_range 0x203F 0x2040 c

-- [141s] BLANK_NODE_LABEL ::= '_:' (PN_CHARS_U | [0-9]) ((PN_CHARS | '.')* PN_CHARS)?, without the '_:'
unfoldable pub is_label_start : Dialect → ℕ → Bool
is_label_start d c = is_name_start d c || is_ascii_digit c

abbrev pub label : Dialect → Form ℕ (Unit {0})
label d = One (is_label_start d) ▹ name_end (is_name_char d)

abbrev pub blank_node_label : Dialect → Form ℕ (List ℕ)
blank_node_label d = terminal (codes "_:") ▹ written (Verbatim (label d))

-- ---- language tags

-- [144s] LANGTAG ::= '@' [a-zA-Z]+ ('-' [a-zA-Z0-9]+)*, without the '@'
abbrev pub letters : Form ℕ (Unit {0})
letters = silent (some (One is_ascii_alphabetic))

abbrev pub subtag : Form ℕ (Unit {0})
subtag = terminal (codes "-") ▹ silent (some (One is_ascii_alphanumeric))

abbrev pub tag : Form ℕ (Unit {0})
tag = letters ▹ silent (many subtag)

-- it means the tag in lower case
abbrev pub langtag : Form ℕ (List ℕ)
langtag = terminal (codes "@") ▹ Made str_to_ascii_lowercase (written (Verbatim tag))
