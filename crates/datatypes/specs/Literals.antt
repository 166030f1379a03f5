-- Values of literals, as SHACL 2017 asks for them: integers (section 4.3), and what shapes graphs state as counts
-- and as booleans. The bounds of 128 bits and of 4,294,967,295, and that `1` and `0` state no boolean, are the
-- project's own.
use Rattle.std.specs.Prelude.{ℕ, ◌^◌, Bool, true, false, List, codes, nat_lt, ℤ, pos, negsuc, int_lt}
use Rattle.std.specs.Prelude.{Option, Some, None, option_and_then, if◌then◌else◌}
use Rattle.std.specs.Ordering.{int_cmp, is_lt, is_le, is_gt, is_ge, is_some_and}
use Rattle.std.specs.Str.{bytes_eq}
use Rattle.std.specs.declared.cmp.Ordering.{Ordering}
use Rattle.rdf_terms.specs.declared.term.Term.{Term}
use Rattle.rdf_terms.specs.declared.term.Term.TheVariants.{Iri, Blank, Literal}
use Rattle.rdf_terms.specs.Vocab.Xsd as xsd
use Rattle.datatypes.specs.Forms.{integer_of, integer_within, range_of, least_signed, greatest_signed}
use Rattle.datatypes.specs.declared.integer.Integer.{Integer}
use Rattle.datatypes.specs.declared.integer.Integer.TheVariants.{Below, Within, Above}

-- the value of a well-formed literal of a datatype of integers
unfoldable pub integer_value : Term → Option ℤ
integer_value (Iri i) = None
integer_value (Blank s l) = None
integer_value (Literal text datatype tag) = option_and_then (λ values. integer_within values text) (range_of datatype)

-- the integer, as far as 128 bits hold it
abbrev pub by_size : ℤ → Integer
by_size z = if int_lt z (least_signed 128) then Below else if int_lt (greatest_signed 128) z then Above else Within z

-- the integer, if they do
abbrev pub if_small : Integer → Option ℤ
if_small Below = None
if_small (Within z) = Some z
if_small Above = None

-- the value of a well-formed integer literal within 128 bits
abbrev pub small_integer : Term → Option ℤ
small_integer t = option_and_then (λ z. if_small (by_size z)) (integer_value t)

-- the order of the values of two such literals
abbrev pub integer_order : Term → Term → Option Ordering
integer_order a b = of_values (small_integer a) (small_integer b)
  where
    of_values : Option ℤ → Option ℤ → Option Ordering
    of_values (Some m) (Some n) = Some (int_cmp m n)
    of_values _ _ = None

-- sh:minExclusive: the bound is less than the value
abbrev pub meets_min_exclusive : Term → Term → Bool
meets_min_exclusive bound value = is_some_and is_lt (integer_order bound value)

-- sh:minInclusive: it is less or equal
abbrev pub meets_min_inclusive : Term → Term → Bool
meets_min_inclusive bound value = is_some_and is_le (integer_order bound value)

-- sh:maxExclusive: it is greater
abbrev pub meets_max_exclusive : Term → Term → Bool
meets_max_exclusive bound value = is_some_and is_gt (integer_order bound value)

-- sh:maxInclusive: it is greater or equal
abbrev pub meets_max_inclusive : Term → Term → Bool
meets_max_inclusive bound value = is_some_and is_ge (integer_order bound value)

-- the value of a well-formed xsd:integer literal, if it is from 0 to 4,294,967,295
abbrev pub count_of : Term → Option ℕ
count_of (Iri i) = None
count_of (Blank s l) = None
count_of (Literal text datatype tag) =
    if bytes_eq datatype xsd.integer then option_and_then count (integer_of text) else None
  where
    count : ℤ → Option ℕ
    count (pos n) = if nat_lt n (2 ^ 32) then Some n else None
    count (negsuc n) = None

-- the literal `true` or `false` of xsd:boolean
abbrev pub boolean_literal : Bool → Term
boolean_literal true = Literal (codes "true") xsd.boolean None
boolean_literal false = Literal (codes "false") xsd.boolean None

-- which of the two the term is
abbrev pub boolean_of : Term → Option Bool
boolean_of (Iri i) = None
boolean_of (Blank s l) = None
boolean_of (Literal text datatype (Some tag)) = None
boolean_of (Literal text datatype None) = if bytes_eq datatype xsd.boolean then named text else None
  where
    named : List ℕ → Option Bool
    named text =
        if bytes_eq text (codes "true") then Some true
        else if bytes_eq text (codes "false") then Some false
        else None
