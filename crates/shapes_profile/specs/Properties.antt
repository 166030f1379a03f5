-- The properties of shapes and what their values have to be (SHACL 2017, sections 2.1 to 2.3 and 4, and the
-- syntax rules of its appendix A), with the profile of this project.
use Rattle.std.specs.Prelude.{Bool, true, false, List, [], ◌∷◌, find, Option, option_map}
use Rattle.rdf_terms.specs.declared.term.Term.{Term}
use Rattle.rdf_terms.specs.Vocab.Sh as sh
use Rattle.rdf_navigation.specs.Values.{same_term}
use Rattle.shapes_profile.specs.declared.properties.Property.{Property}
use Rattle.shapes_profile.specs.declared.properties.Property.TheVariants as property
use Rattle.shapes_profile.specs.declared.properties.Expected.{Expected}
use Rattle.shapes_profile.specs.declared.properties.Expected.TheVariants as value
use Rattle.shapes_profile.specs.declared.properties.Row.{Row}

abbrev yes : Bool
yes = true

abbrev no : Bool
no = false

abbrev pub row : Property → Expected → Bool → Bool → Row
row p v one only = record { property = p; value = v; at_most_one = one; property_shape_only = only }

-- the property, its values, whether at most one, whether for property shapes only
unfoldable pub table : List Row
table =
    row property.Class value.Iri no no
    ∷ row property.Equals value.Iri no no
    ∷ row property.Disjoint value.Iri no no
    ∷ row property.Datatype value.Iri yes no
    ∷ row property.Severity value.Iri yes no
    ∷ row property.NodeKind value.NodeKind yes no
    ∷ row property.MinCount value.Count yes yes
    ∷ row property.MaxCount value.Count yes yes
    ∷ row property.QualifiedMinCount value.Count yes no
    ∷ row property.QualifiedMaxCount value.Count yes no
    ∷ row property.MinLength value.Count yes no
    ∷ row property.MaxLength value.Count yes no
    ∷ row property.MinExclusive value.Integer yes no
    ∷ row property.MinInclusive value.Integer yes no
    ∷ row property.MaxExclusive value.Integer yes no
    ∷ row property.MaxInclusive value.Integer yes no
    ∷ row property.UniqueLang value.Boolean yes yes
    ∷ row property.QualifiedValueShapesDisjoint value.Boolean yes no
    ∷ row property.Closed value.Boolean yes no
    ∷ row property.Deactivated value.Boolean yes no
    ∷ row property.LanguageIn value.ListOfStrings yes no
    ∷ row property.IgnoredProperties value.ListOfIris yes no
    ∷ row property.In value.ListOfTerms yes no
    ∷ row property.HasValue value.AnyTerm no no
    ∷ row property.Not value.Shape no no
    ∷ row property.Node value.Shape no no
    ∷ row property.Property value.Shape no no
    ∷ row property.QualifiedValueShape value.Shape yes yes
    ∷ row property.And value.ListOfShapes no no
    ∷ row property.Or value.ListOfShapes no no
    ∷ row property.Xone value.ListOfShapes no no
    ∷ row property.Path value.Path yes no
    ∷ row property.TargetNode value.IriOrLiteral no no
    ∷ row property.TargetClass value.Iri no no
    ∷ row property.TargetSubjectsOf value.Iri no no
    ∷ row property.TargetObjectsOf value.Iri no no
    ∷ []

-- the IRI of a property
abbrev pub iri_of : Property → Term
iri_of property.Class = sh.class
iri_of property.Equals = sh.equals
iri_of property.Disjoint = sh.disjoint
iri_of property.Datatype = sh.datatype
iri_of property.Severity = sh.severity
iri_of property.NodeKind = sh.node_kind
iri_of property.MinCount = sh.min_count
iri_of property.MaxCount = sh.max_count
iri_of property.QualifiedMinCount = sh.qualified_min_count
iri_of property.QualifiedMaxCount = sh.qualified_max_count
iri_of property.MinLength = sh.min_length
iri_of property.MaxLength = sh.max_length
iri_of property.MinExclusive = sh.min_exclusive
iri_of property.MinInclusive = sh.min_inclusive
iri_of property.MaxExclusive = sh.max_exclusive
iri_of property.MaxInclusive = sh.max_inclusive
iri_of property.UniqueLang = sh.unique_lang
iri_of property.QualifiedValueShapesDisjoint = sh.qualified_value_shapes_disjoint
iri_of property.Closed = sh.closed
iri_of property.Deactivated = sh.deactivated
iri_of property.LanguageIn = sh.language_in
iri_of property.IgnoredProperties = sh.ignored_properties
iri_of property.In = sh.in_
iri_of property.HasValue = sh.has_value
iri_of property.Not = sh.not
iri_of property.Node = sh.node
iri_of property.Property = sh.property
iri_of property.QualifiedValueShape = sh.qualified_value_shape
iri_of property.And = sh.and
iri_of property.Or = sh.or
iri_of property.Xone = sh.xone
iri_of property.Path = sh.path
iri_of property.TargetNode = sh.target_node
iri_of property.TargetClass = sh.target_class
iri_of property.TargetSubjectsOf = sh.target_subjects_of
iri_of property.TargetObjectsOf = sh.target_objects_of

-- says where a shape applies (section 2.1.3)
abbrev pub is_target : Property → Bool
is_target property.TargetNode = true
is_target property.TargetClass = true
is_target property.TargetSubjectsOf = true
is_target property.TargetObjectsOf = true
is_target _ = false

-- a parameter of a constraint component (section 4): all but targets, paths, severity and deactivation
abbrev pub is_parameter : Property → Bool
is_parameter property.Path = false
is_parameter property.Severity = false
is_parameter property.Deactivated = false
is_parameter property.TargetNode = false
is_parameter property.TargetClass = false
is_parameter property.TargetSubjectsOf = false
is_parameter property.TargetObjectsOf = false
is_parameter _ = true

-- the row of a predicate, if it is one of these properties
unfoldable pub row_of : Term → Option Row
row_of p = find (λ r. same_term p (iri_of r.property)) table

-- the property that a predicate is, if it is one of these
abbrev pub property_of : Term → Option Property
property_of p = option_map (λ (r : Row). r.property) (row_of p)

-- a SHACL list
abbrev pub is_list : Expected → Bool
is_list value.ListOfStrings = true
is_list value.ListOfIris = true
is_list value.ListOfTerms = true
is_list value.ListOfShapes = true
is_list _ = false
