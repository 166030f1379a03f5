-- Which nodes are shapes, and their numbers (SHACL 2017, sections 2.1 to 2.3).
use Rattle.std.specs.Prelude.{◌&&◌, ℕ, suc, Bool, false, ◌||◌, List, [], ◌∷◌, ◌++◌, map, filter, flat_map, slice_get}
use Rattle.std.specs.Prelude.{Option, Some, None, unwrap_or, if◌then◌else◌}
use Rattle.std.specs.List.{list_any}
use Rattle.rdf_terms.specs.Statement.{Statement, is_iri}
use Rattle.rdf_terms.specs.Graph.{Graph, triples}
use Rattle.rdf_terms.specs.Nodes.{Nodes, terms, nodes_of_list, has_term}
use Rattle.rdf_terms.specs.declared.term.Term.{Term}
use Rattle.rdf_terms.specs.Vocab.Rdfs as rdfs
use Rattle.rdf_terms.specs.Vocab.Sh as sh
use Rattle.datatypes.specs.Literals.{boolean_of}
use Rattle.rdf_navigation.specs.Values.{same_term, values, has_values}
use Rattle.rdf_navigation.specs.Lists.{members}
use Rattle.rdf_navigation.specs.Instances.{is_instance}
use Rattle.shapes_profile.specs.declared.properties.Row.{Row}
use Rattle.shapes_profile.specs.declared.properties.Expected.{Expected}
use Rattle.shapes_profile.specs.declared.properties.Expected.TheVariants.{Shape, ListOfShapes}
use Rattle.shapes_profile.specs.Properties.{row_of, is_target, is_parameter}

-- a SHACL instance of sh:NodeShape or sh:PropertyShape
abbrev pub is_declared : Graph → Term → Bool
is_declared s x = is_instance s x sh.node_shape || is_instance s x sh.property_shape

-- an IRI that is declared as a shape and as a class (section 2.1.3.3)
abbrev pub is_implicit_class : Graph → Term → Bool
is_implicit_class s x = is_iri x && is_instance s x rdfs.class && is_declared s x

-- of a node that is no SHACL list, none
abbrev pub members_or_none : Graph → Term → List Term
members_or_none s y = unwrap_or (members s y) []

-- what a value of a property refers to: itself where the property expects a shape, its members where it expects
-- a list of shapes
abbrev pub shapes_in : Graph → Expected → Term → List Term
shapes_in s Shape y = y ∷ []
shapes_in s ListOfShapes y = members_or_none s y
shapes_in s _ y = []

-- what is a shape by a triple with the property of a row: the subject of a target or a parameter, and what its value
-- refers to
abbrev pub shapes_by : Graph → Statement → Option Row → List Term
shapes_by s t None = []
shapes_by s t (Some r) =
    (if is_target r.property || is_parameter r.property then t.subject ∷ [] else []) ++ shapes_in s r.value t.object

abbrev pub shapes_of : Graph → Statement → List Term
shapes_of s t = shapes_by s t (row_of t.predicate)

abbrev pub declared_subjects : Graph → List Term
declared_subjects s = filter (is_declared s) (map (λ t. t.subject) (triples s))

-- all shapes
unfoldable pub shape_nodes : Graph → Nodes
shape_nodes s = nodes_of_list (declared_subjects s ++ flat_map (shapes_of s) (triples s))

abbrev pub is_shape : Graph → Term → Bool
is_shape s x = has_term (shape_nodes s) x

-- a shape with sh:path is a property shape, any other a node shape
abbrev pub is_property_shape : Graph → Term → Bool
is_property_shape s x = has_values s x sh.path

-- whether the value is true
abbrev pub is_true_literal : Term → Bool
is_true_literal y = unwrap_or (boolean_of y) false

-- whether the property is true for the subject
abbrev pub has_true_value : Graph → Term → Term → Bool
has_true_value s x p = list_any is_true_literal (values s x p)

-- shapes are numbered in the order of terms
abbrev pub shape_terms : Graph → List Term
shape_terms s = terms (shape_nodes s)

abbrev pub shape_at : Graph → ℕ → Option Term
shape_at s n = slice_get (shape_terms s) n

-- the place of a term in a list, or its length
abbrev pub place_in : List Term → Term → ℕ
place_in [] y = 0
place_in (x ∷ xs) y = if same_term x y then 0 else suc (place_in xs y)

-- the number of a shape; of any other term, how many shapes there are
unfoldable pub shape_number : Graph → Term → ℕ
shape_number s x = place_in (shape_terms s) x
