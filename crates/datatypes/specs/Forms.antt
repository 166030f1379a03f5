-- Lexical forms of datatypes (XML Schema 1.1 Part 2, sections 3.3 and 3.4), and the integers that they denote.
use Rattle.std.specs.Prelude.{ℕ, ◌-◌, ◌==◌, ◌^◌, Bool, true, ◌&&◌, ◌||◌, List, [], ◌∷◌, length, codes, nat_lt}
use Rattle.std.specs.Prelude.{ℤ, pos, neg_ℤ, int_le, Option, Some, None, is_some, option_and_then, if◌then◌else◌}
use Rattle.std.specs.List.{list_all, list_any, before_first, after_first}
use Rattle.std.specs.Char.{is_ascii_digit}
use Rattle.std.specs.Str.{bytes_eq}
use Rattle.std.specs.Str.Parse.{without_leading_sign, signed_digits_value}
use Rattle.rdf_terms.specs.Vocab.Xsd as xsd
use Rattle.datatypes.specs.declared.range.Range.{Range}

-- xsd:boolean (section 3.3.2)
abbrev pub is_boolean : List ℕ → Bool
is_boolean text = list_any (bytes_eq text) (codes "true" ∷ codes "false" ∷ codes "1" ∷ codes "0" ∷ [])

-- decimal digits, or nothing
abbrev pub are_digits : List ℕ → Bool
are_digits cs = list_all is_ascii_digit cs

-- a point
abbrev pub is_point : ℕ → Bool
is_point c = c == 46

-- xsd:decimal (section 3.3.3): an optional sign, and one or more digits, with at most one point at any place
abbrev pub is_decimal : List ℕ → Bool
is_decimal text = is_split (without_leading_sign text)
  where
    are_parts : List ℕ → List ℕ → Bool
    are_parts whole fraction =
        are_digits whole && are_digits fraction && (nat_lt 0 (length whole) || nat_lt 0 (length fraction))

    -- what stands before the first point, and behind it
    is_split : List ℕ → Bool
    is_split unsigned = are_parts (before_first is_point unsigned) (after_first is_point unsigned)

-- xsd:integer (section 3.4.13): an optional sign, and one or more digits
abbrev pub is_integer : List ℕ → Bool
is_integer text = is_numeral (without_leading_sign text)
  where
    is_numeral : List ℕ → Bool
    is_numeral cs = nat_lt 0 (length cs) && are_digits cs

-- the integer that the text denotes
abbrev pub integer_of : List ℕ → Option ℤ
integer_of text = if is_integer text then Some (signed_digits_value 10 text) else None

-- the integers from the one to the other, where there are such
abbrev pub from_to : Option ℤ → Option ℤ → Range
from_to least greatest = record { least = least; greatest = greatest }

-- the ends of the signed numbers of so many bits
abbrev pub least_signed : ℕ → ℤ
least_signed bits = neg_ℤ (pos (2 ^ (bits - 1)))

abbrev pub greatest_signed : ℕ → ℤ
greatest_signed bits = pos (2 ^ (bits - 1) - 1)

-- the signed numbers of so many bits, and the unsigned ones
abbrev pub signed : ℕ → Range
signed bits = from_to (Some (least_signed bits)) (Some (greatest_signed bits))

abbrev pub unsigned : ℕ → Range
unsigned bits = from_to (Some (pos 0)) (Some (pos (2 ^ bits - 1)))

-- a datatype of integers, by its IRI, and its values
pub record IntegerType : Type 0 where
  pub datatype : List ℕ
  pub values : Range

abbrev row : List ℕ → Range → IntegerType
row datatype values = record { datatype = datatype; values = values }

-- xsd:integer and those derived from it (sections 3.4.13 to 3.4.25)
abbrev pub integer_types : List IntegerType
integer_types =
    row xsd.integer (from_to None None)
    ∷ row xsd.non_positive_integer (from_to None (Some (pos 0)))
    ∷ row xsd.negative_integer (from_to None (Some (neg_ℤ (pos 1))))
    ∷ row xsd.long (signed 64)
    ∷ row xsd.int (signed 32)
    ∷ row xsd.short (signed 16)
    ∷ row xsd.byte (signed 8)
    ∷ row xsd.non_negative_integer (from_to (Some (pos 0)) None)
    ∷ row xsd.unsigned_long (unsigned 64)
    ∷ row xsd.unsigned_int (unsigned 32)
    ∷ row xsd.unsigned_short (unsigned 16)
    ∷ row xsd.unsigned_byte (unsigned 8)
    ∷ row xsd.positive_integer (from_to (Some (pos 1)) None)
    ∷ []

-- the values of the datatype, if it is one of the list
abbrev pub range_in : List IntegerType → List ℕ → Option Range
range_in [] datatype = None
range_in (t ∷ ts) datatype = if bytes_eq datatype t.datatype then Some t.values else range_in ts datatype

-- the same of all datatypes of integers
unfoldable pub range_of : List ℕ → Option Range
range_of datatype = range_in integer_types datatype

-- whether the integer is neither below the range nor above it
abbrev pub is_within : Range → ℤ → Bool
is_within r z = is_from r.least && is_to r.greatest
  where
    is_from : Option ℤ → Bool
    is_from None = true
    is_from (Some least) = int_le least z

    is_to : Option ℤ → Bool
    is_to None = true
    is_to (Some greatest) = int_le z greatest

-- the integer that the text denotes, if it is within the range
abbrev pub integer_within : Range → List ℕ → Option ℤ
integer_within r text = option_and_then (λ z. if is_within r z then Some z else None) (integer_of text)

-- whether the text is a lexical form of the datatype; of a datatype that isn't one of those above, each is
unfoldable pub is_well_formed : List ℕ → List ℕ → Bool
is_well_formed datatype text = is_of (range_of datatype)
  where
    is_of : Option Range → Bool
    is_of (Some values) = is_some (integer_within values text)
    is_of None =
        if bytes_eq datatype xsd.decimal then is_decimal text
        else if bytes_eq datatype xsd.boolean then is_boolean text
        else true
