-- What a String token means, in any of the four ways of quoting it: RDF 1.1 Turtle, sections 2.5.1 and 6.4.
use Rattle.std.specs.Prelude.{ℕ, ◌==◌, Bool, ◌&&◌, not, cond, nat_eq, List, codes, encode_utf8_all}
use Rattle.std.specs.List.{starts_with}
use Rattle.grammar_forms.specs.Forms.{Form, One, terminal, many, written, ◌▹◌, ◌◃◌, ◌∣◌}
use Rattle.rdf_grammar.specs.Productions.{is_scalar, echar, uchar}

-- Between quotation marks an ECHAR or a UCHAR means the character that it names, and any other character itself. Which
-- of them may stand there is a matter of the token.
unfoldable pub is_plain_char : ℕ → Bool
is_plain_char c = is_scalar c && not (c == 92)

abbrev pub quoted_part : Form ℕ ℕ
quoted_part = One is_plain_char ∣ echar ∣ uchar

abbrev pub between : List ℕ → Form ℕ (List ℕ)
between marks = terminal marks ▹ written (many quoted_part) ◃ terminal marks

-- which quotation marks stand on either side: three, where a token begins with three, and one where it does not
unfoldable pub marks_of : List ℕ → List ℕ
marks_of bytes =
    cond (starts_with nat_eq bytes (codes "\"\"\"")) (codes "\"\"\"") (
    cond (starts_with nat_eq bytes (codes "'''")) (codes "'''") (
    cond (starts_with nat_eq bytes (codes "'")) (codes "'") (codes "\"")))

abbrev pub string : Form ℕ (List ℕ)
string text v = between (marks_of (encode_utf8_all text)) text v
