-- The rules on ill-formed shapes (SHACL 2017, sections 2.1 to 2.3 and 4, and its appendix A), by their numbers.
use Rattle.std.specs.Prelude.{◌≡◌, ◌≤◌, ℕ, Bool, true, false, not, ◌&&◌, ◌||◌, IsTrue, List, [], ◌∷◌, length, nat_lt}
use Rattle.std.specs.Prelude.{is_some, is_none}
use Rattle.std.specs.List.{list_any, list_all}
use Rattle.std.specs.Str.{bytes_eq}
use Rattle.rdf_terms.specs.Statement.{is_iri, is_node}
use Rattle.rdf_terms.specs.Graph.{Graph}
use Rattle.rdf_terms.specs.declared.term.Term.{Term}
use Rattle.rdf_terms.specs.declared.term.Term.TheVariants.{Iri, Blank, Literal}
use Rattle.rdf_terms.specs.Vocab.Rdfs as rdfs
use Rattle.rdf_terms.specs.Vocab.Sh as sh
use Rattle.rdf_terms.specs.Vocab.Xsd as xsd
use Rattle.datatypes.specs.Literals.{count_of, small_integer, boolean_of}
use Rattle.rdf_navigation.specs.Values.{among, values, has_values, has_subjects}
use Rattle.rdf_navigation.specs.Lists.{is_blank, members}
use Rattle.rdf_navigation.specs.Instances.{is_instance}
use Rattle.shapes_profile.specs.Logic.{SomeOf}
use Rattle.shapes_profile.specs.declared.properties.Expected.{Expected}
use Rattle.shapes_profile.specs.declared.properties.Expected.TheVariants as value
use Rattle.shapes_profile.specs.Properties.{table, iri_of, is_list}
use Rattle.shapes_profile.specs.Shapes.{members_or_none, is_shape, is_declared, is_property_shape}
use Rattle.property_paths.specs.Paths.{path_depth}

abbrev pub node_kinds : List Term
node_kinds =
    sh.iri ∷ sh.blank_node ∷ sh.literal ∷ sh.blank_node_or_iri ∷ sh.blank_node_or_literal ∷ sh.iri_or_literal ∷ []

abbrev pub is_string : Term → Bool
is_string (Iri i) = false
is_string (Blank s l) = false
is_string (Literal l d t) = bytes_eq d xsd.string

-- whether a value of a property, or each member of a list, is of the kind in the table. That a path is one, and a
-- list one, are rules of their own
abbrev pub is_expected : Graph → Expected → Term → Bool
is_expected s value.Iri y = is_iri y
is_expected s value.NodeKind y = among node_kinds y
is_expected s value.Count y = is_some (count_of y)
is_expected s value.Integer y = is_some (small_integer y)
is_expected s value.Boolean y = is_some (boolean_of y)
is_expected s value.ListOfStrings y = list_all is_string (members_or_none s y)
is_expected s value.ListOfIris y = list_all is_iri (members_or_none s y)
is_expected s value.ListOfTerms y = true
is_expected s value.AnyTerm y = true
is_expected s value.Shape y = is_shape s y
is_expected s value.ListOfShapes y = list_all (is_shape s) (members_or_none s y)
is_expected s value.Path y = true
is_expected s value.IriOrLiteral y = not (is_blank y)

-- 1: a literal is no shape, and a blank node that is a class and declared as a shape is no implicit class
-- (section 2.1.3.3)
abbrev pub cannot_be_shape : Graph → Term → Bool
cannot_be_shape s x = not (is_node x) || (is_blank x && is_instance s x rdfs.class && is_declared s x)

-- 2: two values of an at-most-one property
abbrev pub has_two : Graph → Term → Bool
has_two s x = list_any (λ r. r.at_most_one && nat_lt 1 (length (values s x (iri_of r.property)))) table

-- 3: a SHACL instance of sh:PropertyShape or a value of sh:property, without sh:path (section 2.3)
abbrev pub lacks_path : Graph → Term → Bool
lacks_path s x = (is_instance s x sh.property_shape || has_subjects s sh.property x) && not (is_property_shape s x)

-- 4: a SHACL instance of sh:NodeShape, with sh:path (section 2.2)
abbrev pub is_node_shape_with_path : Graph → Term → Bool
is_node_shape_with_path s x = is_instance s x sh.node_shape && is_property_shape s x

-- 5: its sh:path value is no path (section 2.3.1)
abbrev pub has_value_no_path : Graph → Term → Bool
has_value_no_path s x = list_any (λ y. is_none (path_depth s y)) (values s x sh.path)

-- 6: a node shape with a property that is for property shapes only
abbrev pub has_property_of_path : Graph → Term → Bool
has_property_of_path s x =
    not (is_property_shape s x) && list_any (λ r. r.property_shape_only && has_values s x (iri_of r.property)) table

-- 7: a value that must be a list is no SHACL list
abbrev pub has_value_no_list : Graph → Term → Bool
has_value_no_list s x =
    list_any (λ r. is_list r.value && list_any (λ y. is_none (members s y)) (values s x (iri_of r.property))) table

-- 8: another value, or a member of a list, isn't of the kind in the table
abbrev pub has_other_value : Graph → Term → Bool
has_other_value s x =
    list_any (λ r. list_any (λ y. not (is_expected s r.value y)) (values s x (iri_of r.property))) table

pub record Rule : Type 0 where
  pub number : ℕ
  pub breaks : Graph → Term → Bool

abbrev rule : ℕ → (Graph → Term → Bool) → Rule
rule n test = record { number = n; breaks = test }

unfoldable pub rules : List Rule
rules =
    rule 1 cannot_be_shape
    ∷ rule 2 has_two
    ∷ rule 3 lacks_path
    ∷ rule 4 is_node_shape_with_path
    ∷ rule 5 has_value_no_path
    ∷ rule 6 has_property_of_path
    ∷ rule 7 has_value_no_list
    ∷ rule 8 has_other_value
    ∷ []

-- the shape breaks the rule of this number
unfoldable pub Breaks : Graph → Term → ℕ → Type 0
Breaks s x k = SomeOf (λ r. (r.number ≡ k) × IsTrue (r.breaks s x)) rules

abbrev pub IsIllFormed : Graph → Term → Type 0
IsIllFormed s x = (k : ℕ) × Breaks s x k

-- the smallest rule that the shape breaks
pub record IsSmallestRule (s : Graph) (x : Term) (k : ℕ) : Type 0 where
  pub breaks : Breaks s x k
  pub least : (j : ℕ) → Breaks s x j → k ≤ j
