-- Which triples of a shapes graph are constraints of which shapes (SHACL 2017, section 4).
use Rattle.std.specs.Prelude.{ℕ, ◌&&◌, Bool, false, List, [], ◌∷◌, ◌++◌, map, filter, filter_map, flat_map}
use Rattle.std.specs.Prelude.{Option, Some, None, option_map, option_and_then, unwrap_or, is_some, slice_get}
use Rattle.std.specs.Prelude.{if◌then◌else◌}
use Rattle.std.specs.List.{enumerate_from}
use Rattle.rdf_terms.specs.Statement.{Statement, is_iri}
use Rattle.rdf_terms.specs.Graph.{Graph, triples}
use Rattle.rdf_terms.specs.Nodes.{terms, nodes_of_list}
use Rattle.rdf_terms.specs.declared.term.Term.{Term}
use Rattle.rdf_terms.specs.Vocab.Sh as sh
use Rattle.datatypes.specs.Literals.{count_of}
use Rattle.rdf_navigation.specs.Values.{same_term, values, value_of}
use Rattle.shapes_profile.specs.declared.properties.Property.{Property}
use Rattle.shapes_profile.specs.declared.properties.Property.TheVariants as property
use Rattle.shapes_graph.specs.declared.constraints.Kind.{Kind}
use Rattle.shapes_graph.specs.declared.constraints.Kind.TheVariants as kind
use Rattle.shapes_graph.specs.declared.constraints.Constraint.{Constraint}
use Rattle.shapes_profile.specs.Properties.{property_of}
use Rattle.shapes_profile.specs.Shapes.{members_or_none, is_true_literal, has_true_value, shape_number, shape_at}
use Rattle.shapes_graph.specs.PathForms.{text_of}
use Rattle.shapes_profile.specs.References.{siblings}

abbrev pub shape_numbers : Graph → List Term → List ℕ
shape_numbers s ts = map (shape_number s) ts

-- ascending, each once
abbrev pub distinct : List Term → List Term
distinct ts = terms (nodes_of_list ts)

abbrev pub count : Term → ℕ
count o = unwrap_or (count_of o) 0

-- the sh:path values of its property shapes that are IRIs, and its ignored properties (section 4.8.1)
abbrev pub allowed : Graph → Term → List Term
allowed s x =
    distinct (filter is_iri (flat_map (λ p. values s p sh.path) (values s x sh.property))
    ++ flat_map (λ o. members_or_none s o) (values s x sh.ignored_properties))

-- the numbers of the sibling shapes of a shape, ascending (section 4.7.3)
abbrev pub sibling_numbers : Graph → Term → List ℕ
sibling_numbers s x = shape_numbers s (siblings s x)

-- the number of the qualified shape; without one, a qualified count is no constraint (section 4.7.3)
abbrev pub qualified_shape : Graph → Term → Option ℕ
qualified_shape s x = option_map (shape_number s) (value_of s x sh.qualified_value_shape)

-- the constraint that the shape x states by this property with the value o, if it is one that states constraints; a
-- qualified count only where there is a qualified shape
abbrev pub kind_of : Graph → Term → Term → Property → Option Kind
kind_of s x o property.Class = Some (kind.Class o)
kind_of s x o property.Datatype = Some (kind.Datatype o)
kind_of s x o property.NodeKind = Some (kind.NodeKind o)
kind_of s x o property.MinExclusive = Some (kind.MinExclusive o)
kind_of s x o property.MinInclusive = Some (kind.MinInclusive o)
kind_of s x o property.MaxExclusive = Some (kind.MaxExclusive o)
kind_of s x o property.MaxInclusive = Some (kind.MaxInclusive o)
kind_of s x o property.MinLength = Some (kind.MinLength (count o))
kind_of s x o property.MaxLength = Some (kind.MaxLength (count o))
kind_of s x o property.LanguageIn = Some (kind.LanguageIn (members_or_none s o))
kind_of s x o property.In = Some (kind.In (members_or_none s o))
kind_of s x o property.Not = Some (kind.Not (shape_number s o))
kind_of s x o property.Node = Some (kind.Node (shape_number s o))
kind_of s x o property.And = Some (kind.And (shape_numbers s (members_or_none s o)))
kind_of s x o property.Or = Some (kind.Or (shape_numbers s (members_or_none s o)))
kind_of s x o property.Xone = Some (kind.Xone (shape_numbers s (distinct (members_or_none s o))))
kind_of s x o property.Property = Some (kind.Property (shape_number s o))
kind_of s x o property.Closed = Some (kind.Closed (is_true_literal o) (allowed s x))
kind_of s x o property.Disjoint = Some (kind.Disjoint (text_of o))
kind_of s x o property.Equals = Some (kind.Equals (text_of o))
kind_of s x o property.HasValue = Some (kind.HasValue o)
kind_of s x o property.UniqueLang = Some (kind.UniqueLang (is_true_literal o))
kind_of s x o property.MinCount = Some (kind.MinCount (count o))
kind_of s x o property.MaxCount = Some (kind.MaxCount (count o))
kind_of s x o property.QualifiedMinCount =
    option_map (λ u. kind.QualifiedMinCount (count o) u (sibling_numbers s x)) (qualified_shape s x)
kind_of s x o property.QualifiedMaxCount =
    option_map (λ u. kind.QualifiedMaxCount (count o) u (sibling_numbers s x)) (qualified_shape s x)
kind_of s x o _ = None

-- the numbers of the shapes that a kind of constraint names
abbrev pub shapes_of_kind : Kind → List ℕ
shapes_of_kind (kind.Not u) = u ∷ []
shapes_of_kind (kind.Node u) = u ∷ []
shapes_of_kind (kind.And us) = us
shapes_of_kind (kind.Or us) = us
shapes_of_kind (kind.Xone us) = us
shapes_of_kind (kind.Property u) = u ∷ []
shapes_of_kind (kind.QualifiedMinCount n u us) = u ∷ us
shapes_of_kind (kind.QualifiedMaxCount n u us) = u ∷ us
shapes_of_kind _ = []

-- the numbers of the shapes that a constraint names: the one that states it, and those of its kind
abbrev pub shapes_of_constraint : Constraint → List ℕ
shapes_of_constraint c = c.shape ∷ shapes_of_kind c.kind

-- the constraint component of a kind of constraint. The results of sh:property are those of the property shape
-- (section 4.7.2), so it names none
abbrev pub component_of : Kind → Option Term
component_of (kind.Class c) = Some sh.class_constraint_component
component_of (kind.Datatype d) = Some sh.datatype_constraint_component
component_of (kind.NodeKind k) = Some sh.node_kind_constraint_component
component_of (kind.MinExclusive b) = Some sh.min_exclusive_constraint_component
component_of (kind.MinInclusive b) = Some sh.min_inclusive_constraint_component
component_of (kind.MaxExclusive b) = Some sh.max_exclusive_constraint_component
component_of (kind.MaxInclusive b) = Some sh.max_inclusive_constraint_component
component_of (kind.MinLength n) = Some sh.min_length_constraint_component
component_of (kind.MaxLength n) = Some sh.max_length_constraint_component
component_of (kind.LanguageIn ts) = Some sh.language_in_constraint_component
component_of (kind.In ts) = Some sh.in_constraint_component
component_of (kind.Not u) = Some sh.not_constraint_component
component_of (kind.Node u) = Some sh.node_constraint_component
component_of (kind.And us) = Some sh.and_constraint_component
component_of (kind.Or us) = Some sh.or_constraint_component
component_of (kind.Xone us) = Some sh.xone_constraint_component
component_of (kind.Property u) = None
component_of (kind.Closed on allowed) = Some sh.closed_constraint_component
component_of (kind.Disjoint q) = Some sh.disjoint_constraint_component
component_of (kind.Equals q) = Some sh.equals_constraint_component
component_of (kind.HasValue o) = Some sh.has_value_constraint_component
component_of (kind.UniqueLang on) = Some sh.unique_lang_constraint_component
component_of (kind.MinCount n) = Some sh.min_count_constraint_component
component_of (kind.MaxCount n) = Some sh.max_count_constraint_component
component_of (kind.QualifiedMinCount n u us) = Some sh.qualified_min_count_constraint_component
component_of (kind.QualifiedMaxCount n u us) = Some sh.qualified_max_count_constraint_component

-- the constraint that a triple states, if it states one
unfoldable pub constraint_of : Graph → Statement → Option Constraint
constraint_of s t =
    option_map (λ k. record { shape = shape_number s t.subject; kind = k })
    (option_and_then (kind_of s t.subject t.object) (property_of t.predicate))

-- the constraint that triple i of the sorted graph states
unfoldable pub constraint_at : Graph → ℕ → Option Constraint
constraint_at s i = option_and_then (constraint_of s) (slice_get (triples s) i)

abbrev pub place_of : Graph → Term → ℕ × Statement → Option ℕ
place_of s x (i, t) = if same_term t.subject x && is_some (constraint_of s t) then Some i else None

-- the places of the constraint triples of shape n, ascending; None where there is no such shape
unfoldable pub constraints_of : Graph → ℕ → Option (List ℕ)
constraints_of s n = option_map (λ x. filter_map (place_of s x) (enumerate_from 0 (triples s))) (shape_at s n)

abbrev pub has_true_value_at : Graph → Term → Option Term → Bool
has_true_value_at s p None = false
has_true_value_at s p (Some x) = has_true_value s x p

-- section 2.1.6
unfoldable pub is_deactivated : Graph → ℕ → Bool
is_deactivated s n = has_true_value_at s sh.deactivated (shape_at s n)

-- section 2.1.4: sh:Violation where there is no value
unfoldable pub severity_of : Graph → ℕ → Term
severity_of s n = unwrap_or (option_and_then (λ x. value_of s x sh.severity) (shape_at s n)) sh.violation
