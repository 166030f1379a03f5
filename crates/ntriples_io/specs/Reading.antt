-- A function for each production of a line, which reads it from the left. Private functions alone cite this module.
use Rattle.std.specs.Prelude.{ℕ, List, Option, codes}
use Rattle.grammar_forms.specs.Reading.{Read, terminal_at, then_at, made_at, such_at, either_at, optional_at, over, left, behind, skip_at}
use Rattle.rdf_terms.specs.declared.term.Scope.{Scope}
use Rattle.rdf_terms.specs.declared.term.Term.{Term}
use Rattle.rdf_terms.specs.declared.term.Term.TheVariants.{Iri, Blank}
use Rattle.rdf_terms.specs.Statement.{Statement}
use Rattle.rdf_grammar.specs.declared.dialect.Dialect.TheVariants.{NTriples}
use Rattle.rdf_grammar.specs.Reading.{absolute_iri_at, string_at, blank_node_label_at, langtag_at}
use Rattle.ntriples_io.specs.NTriples.{is_space, is_in_line, of_tag, of_datatype, is_not_lang_string, kind_of, literal_of, statement_of}

unfoldable pub ws_at : List ℕ → Read ℕ (Unit {0})
ws_at = skip_at is_space

unfoldable pub comment_at : List ℕ → Read ℕ (Unit {0})
comment_at = behind (codes "#") (skip_at is_in_line)

unfoldable pub iri_at : List ℕ → Read ℕ Term
iri_at = made_at Iri absolute_iri_at

unfoldable pub blank_at : Scope → List ℕ → Read ℕ Term
blank_at scope = made_at (Blank scope) (blank_node_label_at NTriples)

unfoldable pub subject_at : Scope → List ℕ → Read ℕ Term
subject_at scope = either_at iri_at (blank_at scope)

unfoldable pub datatype_at : List ℕ → Read ℕ (List ℕ)
datatype_at = such_at is_not_lang_string absolute_iri_at

unfoldable pub type_at : List ℕ → Read ℕ (List ℕ × Option (List ℕ))
type_at = made_at of_datatype (behind (codes "^^") (over ws_at datatype_at))

unfoldable pub kind_at : List ℕ → Read ℕ (List ℕ × Option (List ℕ))
kind_at = either_at (made_at of_tag langtag_at) type_at

unfoldable pub kind_or_none_at : List ℕ → Read ℕ (List ℕ × Option (List ℕ))
kind_or_none_at = made_at kind_of (optional_at (over ws_at kind_at))

unfoldable pub literal_at : List ℕ → Read ℕ Term
literal_at = made_at literal_of (then_at string_at kind_or_none_at)

unfoldable pub object_at : Scope → List ℕ → Read ℕ Term
object_at scope = either_at iri_at (either_at (blank_at scope) literal_at)

unfoldable pub end_at : List ℕ → Read ℕ (Unit {0})
end_at = left (terminal_at (codes ".")) ws_at

unfoldable pub triple_at : Scope → List ℕ → Read ℕ Statement
triple_at scope =
    made_at statement_of
    (then_at (subject_at scope) (over ws_at (then_at iri_at (over ws_at (left (object_at scope) (over ws_at end_at))))))

unfoldable pub line_at : Scope → List ℕ → Read ℕ (Option Statement)
line_at scope = over ws_at (left (optional_at (triple_at scope)) (optional_at comment_at))
