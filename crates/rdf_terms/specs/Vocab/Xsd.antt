-- Datatypes of XML Schema 1.1 Part 2, as RDF 1.1 Concepts, section 5.1, names them.
-- Each is the IRI as a text, as a literal has it.
use Rattle.std.specs.Prelude.{ℕ, List, ◌++◌, codes}

-- the IRI of a word of this vocabulary, as a text
abbrev pub text_of : List ℕ → List ℕ
text_of word = codes "http://www.w3.org/2001/XMLSchema#" ++ word

abbrev pub string : List ℕ
string = text_of (codes "string")

abbrev pub boolean : List ℕ
boolean = text_of (codes "boolean")

abbrev pub decimal : List ℕ
decimal = text_of (codes "decimal")

abbrev pub integer : List ℕ
integer = text_of (codes "integer")

abbrev pub float : List ℕ
float = text_of (codes "float")

abbrev pub double : List ℕ
double = text_of (codes "double")

abbrev pub date_time : List ℕ
date_time = text_of (codes "dateTime")

-- those derived from integer (XML Schema 1.1 Part 2, sections 3.4.14 to 3.4.25)

abbrev pub non_positive_integer : List ℕ
non_positive_integer = text_of (codes "nonPositiveInteger")

abbrev pub negative_integer : List ℕ
negative_integer = text_of (codes "negativeInteger")

abbrev pub long : List ℕ
long = text_of (codes "long")

abbrev pub int : List ℕ
int = text_of (codes "int")

abbrev pub short : List ℕ
short = text_of (codes "short")

abbrev pub byte : List ℕ
byte = text_of (codes "byte")

abbrev pub non_negative_integer : List ℕ
non_negative_integer = text_of (codes "nonNegativeInteger")

abbrev pub unsigned_long : List ℕ
unsigned_long = text_of (codes "unsignedLong")

abbrev pub unsigned_int : List ℕ
unsigned_int = text_of (codes "unsignedInt")

abbrev pub unsigned_short : List ℕ
unsigned_short = text_of (codes "unsignedShort")

abbrev pub unsigned_byte : List ℕ
unsigned_byte = text_of (codes "unsignedByte")

abbrev pub positive_integer : List ℕ
positive_integer = text_of (codes "positiveInteger")
