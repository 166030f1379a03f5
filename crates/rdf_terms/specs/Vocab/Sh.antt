-- The SHACL vocabulary (SHACL 2017).
use Rattle.std.specs.Prelude.{ℕ, List, ◌++◌, codes}
use Rattle.rdf_terms.specs.declared.term.Term.{Term}
use Rattle.rdf_terms.specs.declared.term.Term.TheVariants.{Iri}

-- the IRI of a word of this vocabulary
abbrev pub term_of : List ℕ → Term
term_of word = Iri (codes "http://www.w3.org/ns/shacl#" ++ word)

-- shapes and paths (sections 2.1 to 2.3)

abbrev pub node_shape : Term
node_shape = term_of (codes "NodeShape")

abbrev pub property_shape : Term
property_shape = term_of (codes "PropertyShape")

abbrev pub property : Term
property = term_of (codes "property")

abbrev pub path : Term
path = term_of (codes "path")

abbrev pub alternative_path : Term
alternative_path = term_of (codes "alternativePath")

abbrev pub inverse_path : Term
inverse_path = term_of (codes "inversePath")

abbrev pub zero_or_more_path : Term
zero_or_more_path = term_of (codes "zeroOrMorePath")

abbrev pub one_or_more_path : Term
one_or_more_path = term_of (codes "oneOrMorePath")

abbrev pub zero_or_one_path : Term
zero_or_one_path = term_of (codes "zeroOrOnePath")

abbrev pub deactivated : Term
deactivated = term_of (codes "deactivated")

abbrev pub severity : Term
severity = term_of (codes "severity")

abbrev pub message : Term
message = term_of (codes "message")

-- targets (section 2.1.3)

abbrev pub target_node : Term
target_node = term_of (codes "targetNode")

abbrev pub target_class : Term
target_class = term_of (codes "targetClass")

abbrev pub target_subjects_of : Term
target_subjects_of = term_of (codes "targetSubjectsOf")

abbrev pub target_objects_of : Term
target_objects_of = term_of (codes "targetObjectsOf")

-- parameters of value types (section 4.1)

abbrev pub class : Term
class = term_of (codes "class")

abbrev pub datatype : Term
datatype = term_of (codes "datatype")

abbrev pub node_kind : Term
node_kind = term_of (codes "nodeKind")

-- kinds of nodes (section 4.1.3)

abbrev pub iri : Term
iri = term_of (codes "IRI")

abbrev pub blank_node : Term
blank_node = term_of (codes "BlankNode")

abbrev pub literal : Term
literal = term_of (codes "Literal")

abbrev pub blank_node_or_iri : Term
blank_node_or_iri = term_of (codes "BlankNodeOrIRI")

abbrev pub blank_node_or_literal : Term
blank_node_or_literal = term_of (codes "BlankNodeOrLiteral")

abbrev pub iri_or_literal : Term
iri_or_literal = term_of (codes "IRIOrLiteral")

-- parameters of counts and ranges (sections 4.2 and 4.3)

abbrev pub min_count : Term
min_count = term_of (codes "minCount")

abbrev pub max_count : Term
max_count = term_of (codes "maxCount")

abbrev pub min_exclusive : Term
min_exclusive = term_of (codes "minExclusive")

abbrev pub min_inclusive : Term
min_inclusive = term_of (codes "minInclusive")

abbrev pub max_exclusive : Term
max_exclusive = term_of (codes "maxExclusive")

abbrev pub max_inclusive : Term
max_inclusive = term_of (codes "maxInclusive")

-- parameters of strings (section 4.4)

abbrev pub min_length : Term
min_length = term_of (codes "minLength")

abbrev pub max_length : Term
max_length = term_of (codes "maxLength")

abbrev pub pattern : Term
pattern = term_of (codes "pattern")

abbrev pub flags : Term
flags = term_of (codes "flags")

abbrev pub language_in : Term
language_in = term_of (codes "languageIn")

abbrev pub unique_lang : Term
unique_lang = term_of (codes "uniqueLang")

-- parameters of pairs of properties (section 4.5)

abbrev pub equals : Term
equals = term_of (codes "equals")

abbrev pub disjoint : Term
disjoint = term_of (codes "disjoint")

abbrev pub less_than : Term
less_than = term_of (codes "lessThan")

abbrev pub less_than_or_equals : Term
less_than_or_equals = term_of (codes "lessThanOrEquals")

-- parameters of logic (section 4.6)

abbrev pub not : Term
not = term_of (codes "not")

abbrev pub and : Term
and = term_of (codes "and")

abbrev pub or : Term
or = term_of (codes "or")

abbrev pub xone : Term
xone = term_of (codes "xone")

-- parameters of shapes (section 4.7)

abbrev pub node : Term
node = term_of (codes "node")

abbrev pub qualified_value_shape : Term
qualified_value_shape = term_of (codes "qualifiedValueShape")

abbrev pub qualified_value_shapes_disjoint : Term
qualified_value_shapes_disjoint = term_of (codes "qualifiedValueShapesDisjoint")

abbrev pub qualified_min_count : Term
qualified_min_count = term_of (codes "qualifiedMinCount")

abbrev pub qualified_max_count : Term
qualified_max_count = term_of (codes "qualifiedMaxCount")

-- other parameters (section 4.8)

abbrev pub closed : Term
closed = term_of (codes "closed")

abbrev pub ignored_properties : Term
ignored_properties = term_of (codes "ignoredProperties")

abbrev pub has_value : Term
has_value = term_of (codes "hasValue")

abbrev pub in_ : Term
in_ = term_of (codes "in")

-- constraint components (section 4)

abbrev pub class_constraint_component : Term
class_constraint_component = term_of (codes "ClassConstraintComponent")

abbrev pub datatype_constraint_component : Term
datatype_constraint_component = term_of (codes "DatatypeConstraintComponent")

abbrev pub node_kind_constraint_component : Term
node_kind_constraint_component = term_of (codes "NodeKindConstraintComponent")

abbrev pub min_count_constraint_component : Term
min_count_constraint_component = term_of (codes "MinCountConstraintComponent")

abbrev pub max_count_constraint_component : Term
max_count_constraint_component = term_of (codes "MaxCountConstraintComponent")

abbrev pub min_exclusive_constraint_component : Term
min_exclusive_constraint_component = term_of (codes "MinExclusiveConstraintComponent")

abbrev pub min_inclusive_constraint_component : Term
min_inclusive_constraint_component = term_of (codes "MinInclusiveConstraintComponent")

abbrev pub max_exclusive_constraint_component : Term
max_exclusive_constraint_component = term_of (codes "MaxExclusiveConstraintComponent")

abbrev pub max_inclusive_constraint_component : Term
max_inclusive_constraint_component = term_of (codes "MaxInclusiveConstraintComponent")

abbrev pub min_length_constraint_component : Term
min_length_constraint_component = term_of (codes "MinLengthConstraintComponent")

abbrev pub max_length_constraint_component : Term
max_length_constraint_component = term_of (codes "MaxLengthConstraintComponent")

abbrev pub language_in_constraint_component : Term
language_in_constraint_component = term_of (codes "LanguageInConstraintComponent")

abbrev pub unique_lang_constraint_component : Term
unique_lang_constraint_component = term_of (codes "UniqueLangConstraintComponent")

abbrev pub equals_constraint_component : Term
equals_constraint_component = term_of (codes "EqualsConstraintComponent")

abbrev pub disjoint_constraint_component : Term
disjoint_constraint_component = term_of (codes "DisjointConstraintComponent")

abbrev pub not_constraint_component : Term
not_constraint_component = term_of (codes "NotConstraintComponent")

abbrev pub and_constraint_component : Term
and_constraint_component = term_of (codes "AndConstraintComponent")

abbrev pub or_constraint_component : Term
or_constraint_component = term_of (codes "OrConstraintComponent")

abbrev pub xone_constraint_component : Term
xone_constraint_component = term_of (codes "XoneConstraintComponent")

abbrev pub node_constraint_component : Term
node_constraint_component = term_of (codes "NodeConstraintComponent")

abbrev pub qualified_min_count_constraint_component : Term
qualified_min_count_constraint_component = term_of (codes "QualifiedMinCountConstraintComponent")

abbrev pub qualified_max_count_constraint_component : Term
qualified_max_count_constraint_component = term_of (codes "QualifiedMaxCountConstraintComponent")

abbrev pub closed_constraint_component : Term
closed_constraint_component = term_of (codes "ClosedConstraintComponent")

abbrev pub has_value_constraint_component : Term
has_value_constraint_component = term_of (codes "HasValueConstraintComponent")

abbrev pub in_constraint_component : Term
in_constraint_component = term_of (codes "InConstraintComponent")

-- reports (section 3.6)

abbrev pub validation_report : Term
validation_report = term_of (codes "ValidationReport")

abbrev pub conforms : Term
conforms = term_of (codes "conforms")

abbrev pub result : Term
result = term_of (codes "result")

abbrev pub validation_result : Term
validation_result = term_of (codes "ValidationResult")

abbrev pub focus_node : Term
focus_node = term_of (codes "focusNode")

abbrev pub result_path : Term
result_path = term_of (codes "resultPath")

abbrev pub value : Term
value = term_of (codes "value")

abbrev pub result_severity : Term
result_severity = term_of (codes "resultSeverity")

abbrev pub source_constraint_component : Term
source_constraint_component = term_of (codes "sourceConstraintComponent")

abbrev pub source_shape : Term
source_shape = term_of (codes "sourceShape")

abbrev pub result_message : Term
result_message = term_of (codes "resultMessage")

abbrev pub violation : Term
violation = term_of (codes "Violation")

-- predicates that have a meaning in SPARQL-based constraints (sections 5 and 6), in SHACL Advanced
-- Features, in SHACL JavaScript Extensions or under an entailment regime alone

abbrev pub sparql : Term
sparql = term_of (codes "sparql")

abbrev pub select : Term
select = term_of (codes "select")

abbrev pub ask : Term
ask = term_of (codes "ask")

abbrev pub parameter : Term
parameter = term_of (codes "parameter")

abbrev pub validator : Term
validator = term_of (codes "validator")

abbrev pub node_validator : Term
node_validator = term_of (codes "nodeValidator")

abbrev pub property_validator : Term
property_validator = term_of (codes "propertyValidator")

abbrev pub rule : Term
rule = term_of (codes "rule")

abbrev pub target : Term
target = term_of (codes "target")

abbrev pub js : Term
js = term_of (codes "js")

abbrev pub entailment : Term
entailment = term_of (codes "entailment")

abbrev pub expression : Term
expression = term_of (codes "expression")

abbrev pub values : Term
values = term_of (codes "values")
