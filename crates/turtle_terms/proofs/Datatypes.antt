-- The datatypes of literals without quotation marks are lawful, and none is rdf:langString.
use Rattle.std.proofs.Common.{◌≡◌, ◌≢◌, ℕ, true, false, List, length, refl, sym, ap, ◌∙◌}
use Rattle.std.specs.Prelude.{◌==◌}
use Rattle.std.proofs.lemmas.Str.{encodes-IsAscii}
use Rattle.std.specs.List.{list_all}
use Rattle.std.proofs.lemmas.Bool.{eq-eqb, false≢true}
use Rattle.rdf_terms.specs.Vocab.Rdf.{lang_string}
use Rattle.rdf_terms.specs.Vocab.Xsd as xsd
use Rattle.rdf_grammar.specs.Lawful.{IsIri}
use Rattle.rdf_grammar.specs.Productions.{is_iri_char}
use Rattle.rdf_grammar.specs.Reading.{has_scheme, scheme_at}
use Rattle.rdf_grammar.proofs.Productions.{scheme_decides}
use Rattle.turtle_terms.specs.Literals.{IsDatatype}
use Rattle.turtle_terms.proofs.QuotedParts.{is_ascii_text, ascii_list}

iri_by : (bytes : List ℕ) → is_ascii_text bytes ≡ true → list_all is_iri_char bytes ≡ true → has_scheme bytes ≡ true → IsIri bytes
iri_by bytes s e h = record { characters = bytes; spell = encodes-IsAscii bytes (ascii_list bytes s); each = e; scheme = (scheme_decides bytes).0 h }

by_length : (xs ys : List ℕ) → (length xs == length ys) ≡ false → xs ≢ ys
by_length xs ys f e = false≢true (sym f ∙ eq-eqb (length xs) (length ys) (ap length e))

pub integer_is : IsDatatype xsd.integer
unfolding is_iri_char scheme_at
integer_is = record { iri = iri_by xsd.integer refl refl refl; untagged = by_length xsd.integer lang_string refl }

pub decimal_is : IsDatatype xsd.decimal
unfolding is_iri_char scheme_at
decimal_is = record { iri = iri_by xsd.decimal refl refl refl; untagged = by_length xsd.decimal lang_string refl }

pub double_is : IsDatatype xsd.double
unfolding is_iri_char scheme_at
double_is = record { iri = iri_by xsd.double refl refl refl; untagged = by_length xsd.double lang_string refl }

pub boolean_is : IsDatatype xsd.boolean
unfolding is_iri_char scheme_at
boolean_is = record { iri = iri_by xsd.boolean refl refl refl; untagged = by_length xsd.boolean lang_string refl }
