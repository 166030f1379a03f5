-- The report of validation results as RDF (SHACL 2017, section 3.6), and its text in N-Triples.
use Rattle.std.specs.Prelude.{ℕ, ◌+◌, Bool, true, false, List, [], ◌∷◌, ◌++◌, codes, decimal, flat_map}
use Rattle.std.specs.Prelude.{Option, Some, None, IfSome, option_map}
use Rattle.std.specs.Str.{IsUtf8}
use Rattle.std.specs.List.{All}
use Rattle.rdf_terms.specs.declared.term.Scope.TheVariants.{Data, Shapes}
use Rattle.rdf_terms.specs.declared.term.Term.{Term}
use Rattle.rdf_terms.specs.declared.term.Term.TheVariants.{Iri, Blank, Literal}
use Rattle.rdf_terms.specs.Statement.{Statement}
use Rattle.rdf_terms.specs.Graph.{Graph, of_list}
use Rattle.rdf_terms.specs.Vocab.Rdf as rdf
use Rattle.rdf_terms.specs.Vocab.Sh as sh
use Rattle.rdf_terms.specs.Vocab.Xsd as xsd
use Rattle.rdf_grammar.specs.Lawful.{IsLawful, IsIri}
use Rattle.ntriples_io.specs.CanonicalText.{line_text}
use Rattle.core_constraints.specs.declared.result_rows.ResultRow.{ResultRow}

-- a term as it stands in a report, whose blank nodes are of one document: those of the data and those of the shapes
-- are told apart by their labels
abbrev pub in_report : Term → Term
in_report (Iri iri) = Iri iri
in_report (Blank Data label) = Blank Data (codes "d-" ++ label)
in_report (Blank Shapes label) = Blank Data (codes "s-" ++ label)
in_report (Literal lexical datatype tag) = Literal lexical datatype tag

-- the node of the report, and the node of its result with this number, counted from 0
abbrev pub report_node : Term
report_node = Blank Data (codes "report")

abbrev pub result_node : ℕ → Term
result_node k = Blank Data (codes "r-" ++ decimal k)

-- a string without a language tag, and a boolean
abbrev pub string_literal : List ℕ → Term
string_literal text = Literal text xsd.string None

abbrev pub boolean_literal : Bool → Term
boolean_literal true = Literal (codes "true") xsd.boolean None
boolean_literal false = Literal (codes "false") xsd.boolean None

abbrev pub triple_of : Term → Term → Term → Statement
triple_of s p o = record { subject = s; predicate = p; object = o }

-- a triple with this object, where there is one
abbrev pub optional_triple : Term → Term → Option Term → List Statement
optional_triple s p None = []
optional_triple s p (Some o) = triple_of s p o ∷ []

-- what a result says of its node and its value (section 3.6.2)
abbrev pub node_triples : Term → ResultRow → List Statement
node_triples node r =
    triple_of node rdf.type_ sh.validation_result ∷ triple_of node sh.focus_node (in_report r.focus)
    ∷ optional_triple node sh.result_path (option_map in_report r.path)
    ++ optional_triple node sh.value (option_map in_report r.value)

-- what it says of its shape
abbrev pub shape_triples : Term → ResultRow → List Statement
shape_triples node r =
    triple_of node sh.result_severity (in_report r.severity)
    ∷ triple_of node sh.source_constraint_component (Iri r.component)
    ∷ triple_of node sh.source_shape (in_report r.shape)
    ∷ optional_triple node sh.result_message (option_map string_literal r.message)

-- the result with this number
abbrev pub result_triples : ℕ → ResultRow → List Statement
result_triples k r =
    triple_of report_node sh.result (result_node k) ∷ node_triples (result_node k) r ++ shape_triples (result_node k) r

-- results with the numbers from this one on
abbrev pub results_from : ℕ → List ResultRow → List Statement
results_from k [] = []
results_from k (r ∷ rows) = result_triples k r ++ results_from (k + 1) rows

-- whether the data conforms, which it does where there is no result (section 3.6.1.1)
abbrev pub is_conforming : List ResultRow → Bool
is_conforming [] = true
is_conforming (r ∷ rows) = false

-- what a report says of its node
abbrev pub head_triples : Bool → List Statement
head_triples conforms =
    triple_of report_node rdf.type_ sh.validation_report ∷ triple_of report_node sh.conforms (boolean_literal conforms) ∷ []

abbrev pub report_triples : List ResultRow → List Statement
report_triples rows = head_triples (is_conforming rows) ++ results_from 0 rows

-- the report as a graph
abbrev pub report_graph : List ResultRow → Graph
report_graph rows = of_list (report_triples rows)

-- the report as a text: the canonical lines of its triples, in this order
abbrev pub report_text : List ResultRow → List ℕ
report_text rows = flat_map line_text (report_triples rows)

-- a row of terms that documents can have
pub record IsLawfulRow (r : ResultRow) : Type 0 where
  pub focus : IsLawful r.focus
  pub shape : IsLawful r.shape
  pub component : IsIri r.component
  pub path : IfSome r.path IsLawful
  pub value : IfSome r.value IsLawful
  pub message : IfSome r.message IsUtf8
  pub severity : IsLawful r.severity

abbrev pub AreLawfulRows : List ResultRow → Type 0
AreLawfulRows rows = All IsLawfulRow rows
