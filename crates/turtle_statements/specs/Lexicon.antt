-- What a token by itself stands for, as functions. Private functions cite it.
use Rattle.std.specs.Prelude.{ℕ, ◌-◌, ◌*◌, ◌==◌, cond, List, [], ◌∷◌, ◌++◌, length, take, drop, Option, Some, None}
use Rattle.std.specs.Prelude.{option_and_then, encode_utf8_all}
use Rattle.std.specs.Option.{option_map}
use Rattle.std.specs.Str.{bytes_eq}
use Rattle.grammar_forms.specs.Reading.{Read, whole, one_at, either_at, all_at, written_at}
use Rattle.rdf_grammar.specs.declared.dialect.Dialect.TheVariants.{Turtle}
use Rattle.rdf_grammar.specs.Reading.{iriref_at, blank_node_label_at, langtag_at, string_escape_at}
use Rattle.turtle_tokens.specs.declared.kinds.TokenKind.{TokenKind}
use Rattle.turtle_tokens.specs.declared.kinds.TokenKind.TheVariants as kind
use Rattle.turtle_tokens.specs.Places.{PlacedToken}
use Rattle.turtle_terms.specs.Names.{expanded}
use Rattle.turtle_terms.specs.References.{iri_under}
use Rattle.turtle_terms.specs.Strings.{is_plain_char, marks_of}
use Rattle.turtle_statements.specs.Names.{Names, namespace_of}

-- what stands before the first colon, and behind it
unfoldable pub split_colon : List ℕ → Option (List ℕ × List ℕ)
split_colon [] = None
split_colon (c ∷ cs) = cond (c == 58) (Some ([], cs)) (option_map (λ p. (c ∷ p.0, p.1)) (split_colon cs))

-- the prefix that a name begins with
abbrev pub prefix_before_colon : List ℕ → Option (List ℕ)
prefix_before_colon text = option_map (λ p. encode_utf8_all p.0) (split_colon text)

abbrev pub expand : Names → List ℕ × List ℕ → Option (List ℕ)
expand names p = option_map (λ namespace. expanded namespace p.1) (namespace_of names (encode_utf8_all p.0))

unfoldable pub name_iri : Names → List ℕ → Option (List ℕ)
name_iri names text = option_and_then (expand names) (split_colon text)

unfoldable pub reference_iri : Names → List ℕ → Option (List ℕ)
reference_iri names text = option_and_then (iri_under names.base) (whole iriref_at text)

abbrev pub kind_iri : Names → TokenKind → List ℕ → Option (List ℕ)
kind_iri names kind.IriRef text = reference_iri names text
kind_iri names kind.PnameNs text = name_iri names text
kind_iri names kind.PnameLn text = name_iri names text
kind_iri names k text = None

abbrev pub iri_of : Names → PlacedToken → Option (List ℕ)
iri_of names t = kind_iri names t.kind t.text

unfoldable pub label_of : List ℕ → Option (List ℕ)
label_of text = whole (blank_node_label_at Turtle) text

unfoldable pub tag_of : List ℕ → Option (List ℕ)
tag_of text = whole langtag_at text

-- what is left without this many characters on either side
abbrev pub within : ℕ → List ℕ → List ℕ
within n text = take (length text - 2 * n) (drop n text)

abbrev pub parts_at : List ℕ → Read ℕ (List ℕ)
parts_at = written_at (all_at (either_at (one_at is_plain_char) string_escape_at))

abbrev pub string_between : List ℕ → List ℕ → Option (List ℕ)
string_between marks text =
    cond (bytes_eq text (marks ++ (within (length marks) text ++ marks)))
    (whole parts_at (within (length marks) text)) None

unfoldable pub string_of : List ℕ → Option (List ℕ)
string_of text = string_between (marks_of (encode_utf8_all text)) text
