-- A function for each production, which reads it from the left. Each reads exactly its form (`Exact`).
use Rattle.std.specs.Prelude.{◌≡◌, ℕ, Bool, None, List, [], ◌∷◌, codes, is_some}
use Rattle.std.specs.Char.{digit_value, is_ascii_alphabetic, is_ascii_alphanumeric}
use Rattle.std.specs.Str.{str_to_ascii_lowercase}
use Rattle.grammar_forms.specs.Reading.{Read, one_at, then_at, made_at, such_at, verbatim_at, either_at, all_at, over, behind, before, silent_at, skip_at, skip_some_at, written_at}
use Rattle.grammar_forms.specs.Names.{name_end_at}
use Rattle.rdf_grammar.specs.declared.dialect.Dialect.{Dialect}
use Rattle.rdf_grammar.specs.Productions.{is_scalar, is_hex, of_two, of_pairs, of_fours, is_escape, escape_of, is_iri_char, is_scheme_char, is_string_char, is_label_start, is_name_char}

unfoldable pub hex_at : List ℕ → Read ℕ ℕ
hex_at = made_at digit_value (one_at is_hex)

unfoldable pub hex2_at : List ℕ → Read ℕ ℕ
hex2_at = made_at of_two (then_at hex_at hex_at)

unfoldable pub hex4_at : List ℕ → Read ℕ ℕ
hex4_at = made_at of_pairs (then_at hex2_at hex2_at)

unfoldable pub hex8_at : List ℕ → Read ℕ ℕ
hex8_at = made_at of_fours (then_at hex4_at hex4_at)

unfoldable pub uchar_at : List ℕ → Read ℕ ℕ
uchar_at = such_at is_scalar (either_at (behind (92 ∷ 117 ∷ []) hex4_at) (behind (92 ∷ 85 ∷ []) hex8_at))

unfoldable pub echar_at : List ℕ → Read ℕ ℕ
echar_at = made_at escape_of (behind (92 ∷ []) (one_at is_escape))

unfoldable pub iri_escape_at : List ℕ → Read ℕ ℕ
iri_escape_at = such_at is_iri_char uchar_at

unfoldable pub iri_part_at : List ℕ → Read ℕ ℕ
iri_part_at = either_at (one_at is_iri_char) iri_escape_at

unfoldable pub iri_parts_at : List ℕ → Read ℕ (List ℕ)
iri_parts_at = written_at (all_at iri_part_at)

unfoldable pub iriref_at : List ℕ → Read ℕ (List ℕ)
iriref_at = behind (codes "<") (before (codes ">") iri_parts_at)

unfoldable pub scheme_at : List ℕ → Read ℕ (Unit {0})
scheme_at = over (one_at is_ascii_alphabetic) (before (codes ":") (skip_at is_scheme_char))

abbrev pub has_scheme : List ℕ → Bool
has_scheme text = is_some (scheme_at text)

unfoldable pub absolute_iri_at : List ℕ → Read ℕ (List ℕ)
absolute_iri_at = such_at has_scheme iriref_at

unfoldable pub string_escape_at : List ℕ → Read ℕ ℕ
string_escape_at = either_at echar_at uchar_at

unfoldable pub string_part_at : List ℕ → Read ℕ ℕ
string_part_at = either_at (one_at is_string_char) string_escape_at

unfoldable pub string_parts_at : List ℕ → Read ℕ (List ℕ)
string_parts_at = written_at (all_at string_part_at)

unfoldable pub string_at : List ℕ → Read ℕ (List ℕ)
string_at = behind (34 ∷ []) (before (34 ∷ []) string_parts_at)

unfoldable pub label_end_at : Dialect → List ℕ → Read ℕ (Unit {0})
label_end_at d = name_end_at (is_name_char d)

unfoldable pub label_at : Dialect → List ℕ → Read ℕ (Unit {0})
label_at d = over (one_at (is_label_start d)) (label_end_at d)

unfoldable pub blank_node_label_at : Dialect → List ℕ → Read ℕ (List ℕ)
blank_node_label_at d = behind (codes "_:") (written_at (verbatim_at (label_at d)))

unfoldable pub subtag_at : List ℕ → Read ℕ (Unit {0})
subtag_at = behind (codes "-") (skip_some_at is_ascii_alphanumeric)

unfoldable pub subtags_at : List ℕ → Read ℕ (Unit {0})
subtags_at = silent_at (all_at subtag_at)

unfoldable pub tag_at : List ℕ → Read ℕ (Unit {0})
tag_at = over (skip_some_at is_ascii_alphabetic) subtags_at

unfoldable pub langtag_at : List ℕ → Read ℕ (List ℕ)
langtag_at = behind (codes "@") (made_at str_to_ascii_lowercase (written_at (verbatim_at tag_at)))

-- what may follow a tag: nothing that would make it longer
pub record AfterTag (rest : List ℕ) : Type 0 where
  pub no_letter : one_at is_ascii_alphabetic rest ≡ None
  pub no_alnum : one_at is_ascii_alphanumeric rest ≡ None
  pub no_subtag : subtag_at rest ≡ None
