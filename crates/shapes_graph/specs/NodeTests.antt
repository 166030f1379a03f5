-- Tests of a value node by itself (SHACL 2017, sections 4.1.2, 4.1.3, 4.4 and 4.8.3).
use Rattle.std.specs.Prelude.{ℕ, Bool, false, ◌&&◌, ◌||◌, List, [], ◌∷◌, ◌++◌, length, chars, codes}
use Rattle.std.specs.Prelude.{nat_eq, nat_le, Option, Some, None}
use Rattle.std.specs.List.{list_any, starts_with}
use Rattle.std.specs.Str.{bytes_eq, str_to_ascii_lowercase}
use Rattle.rdf_terms.specs.declared.term.Term.{Term}
use Rattle.rdf_terms.specs.declared.term.Term.TheVariants.{Iri, Blank, Literal}
use Rattle.rdf_terms.specs.Vocab.Sh as sh
use Rattle.rdf_navigation.specs.Values.{among}
use Rattle.datatypes.specs.Forms.{is_well_formed}

-- a literal of the datatype, and well formed
abbrev pub is_of_datatype : Term → Term → Bool
is_of_datatype (Iri i) (Literal l d t) = bytes_eq d i && is_well_formed d l
is_of_datatype _ _ = false

abbrev pub is_of_kind : Term → Term → Bool
is_of_kind kind (Iri i) = among (sh.iri ∷ sh.blank_node_or_iri ∷ sh.iri_or_literal ∷ []) kind
is_of_kind kind (Blank s l) = among (sh.blank_node ∷ sh.blank_node_or_iri ∷ sh.blank_node_or_literal ∷ []) kind
is_of_kind kind (Literal l d t) = among (sh.literal ∷ sh.blank_node_or_literal ∷ sh.iri_or_literal ∷ []) kind

-- the characters of an IRI or of a lexical form, decoded from UTF-8
abbrev pub characters : Term → Option (List ℕ)
characters (Iri i) = Some (chars i)
characters (Blank s l) = None
characters (Literal l d t) = Some (chars l)

abbrev pub is_long_enough : ℕ → Term → Bool
is_long_enough n y = by_characters (characters y)
  where
    by_characters : Option (List ℕ) → Bool
    by_characters None = false
    by_characters (Some cs) = nat_le n (length cs)

abbrev pub is_short_enough : ℕ → Term → Bool
is_short_enough n y = by_characters (characters y)
  where
    by_characters : Option (List ℕ) → Bool
    by_characters None = false
    by_characters (Some cs) = nat_le (length cs) n

-- the range matches the tag (RFC 4647, section 3.3.1, basic filtering); the empty range matches nothing
abbrev pub matches : List ℕ → List ℕ → Bool
matches tag [] = false
matches tag (c ∷ cs) =
    bytes_eq (c ∷ cs) (codes "*") || bytes_eq small (lower (c ∷ cs))
    || starts_with nat_eq small (lower (c ∷ cs) ++ codes "-")
  where
    lower : List ℕ → List ℕ
    lower text = str_to_ascii_lowercase text

    small : List ℕ
    small = lower tag

abbrev pub tag_of : Term → Option (List ℕ)
tag_of (Iri i) = None
tag_of (Blank s l) = None
tag_of (Literal l d t) = t

abbrev pub has_language : List Term → Term → Bool
has_language ranges y = by_tag (tag_of y)
  where
    matches_range : List ℕ → Term → Bool
    matches_range tag (Literal l d t) = matches tag l
    matches_range tag _ = false

    by_tag : Option (List ℕ) → Bool
    by_tag None = false
    by_tag (Some tag) = list_any (matches_range tag) ranges
