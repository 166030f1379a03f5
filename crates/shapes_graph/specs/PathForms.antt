-- The numbers of property paths, and their forms over these (SHACL 2017, section 2.3.1).
use Rattle.std.specs.Prelude.{ℕ, ◌+◌, List, [], ◌∷◌, ◌++◌, map, filter_map}
use Rattle.std.specs.Prelude.{Option, option_map, option_and_then}
use Rattle.rdf_terms.specs.Graph.{Graph}
use Rattle.rdf_terms.specs.Nodes.{Nodes, terms}
use Rattle.rdf_terms.specs.declared.term.Term.{Term}
use Rattle.rdf_terms.specs.declared.term.Term.TheVariants.{Iri, Blank, Literal}
use Rattle.rdf_terms.specs.Vocab.Rdf as rdf
use Rattle.rdf_terms.specs.Vocab.Rdfs as rdfs
use Rattle.rdf_terms.specs.Vocab.Sh as sh
use Rattle.rdf_navigation.specs.Values.{value_of}
use Rattle.shapes_graph.specs.declared.paths.PathForm.{PathForm}
use Rattle.shapes_graph.specs.declared.paths.PathForm.TheVariants.{Predicate, Inverse, Sequence, Alternative}
use Rattle.shapes_graph.specs.declared.paths.PathForm.TheVariants.{ZeroOrMore, OneOrMore, ZeroOrOne}
use Rattle.property_paths.specs.declared.paths.PathNode.{PathNode}
use Rattle.property_paths.specs.declared.paths.PathNode.TheVariants as node
use Rattle.shapes_profile.specs.Shapes.{shape_at, place_in}
use Rattle.property_paths.specs.Paths.{path_node}
use Rattle.shapes_profile.specs.PathNodes.{path_nodes}

-- from 4 on, in the order of terms
abbrev pub number_among : Nodes → Term → ℕ
number_among nodes x = 4 + place_in (terms nodes) x

unfoldable pub path_number : Graph → Term → ℕ
path_number s x = number_among (path_nodes s) x

abbrev pub numbered : (Term → ℕ) → PathNode → PathForm
numbered n (node.Predicate i) = Predicate i
numbered n (node.Inverse q) = Inverse (n q)
numbered n (node.Sequence a b) = Sequence (n a) (n b)
numbered n (node.Alternative qs) = Alternative (map n qs)
numbered n (node.ZeroOrMore q) = ZeroOrMore (n q)
numbered n (node.OneOrMore q) = OneOrMore (n q)
numbered n (node.ZeroOrOne q) = ZeroOrOne (n q)

-- the numbers of the paths that the form names
abbrev pub parts_of_form : PathForm → List ℕ
parts_of_form (Predicate i) = []
parts_of_form (Inverse q) = q ∷ []
parts_of_form (Sequence a b) = a ∷ b ∷ []
parts_of_form (Alternative qs) = qs
parts_of_form (ZeroOrMore q) = q ∷ []
parts_of_form (OneOrMore q) = q ∷ []
parts_of_form (ZeroOrOne q) = q ∷ []

-- the characters of an IRI, the label of a blank node, the lexical form of a literal
abbrev pub text_of : Term → List ℕ
text_of (Iri i) = i
text_of (Blank c l) = l
text_of (Literal l d t) = l

-- the path from a node to the classes that it is a SHACL instance of
abbrev pub instance_path : ℕ
instance_path = 3

-- those of types and subclasses, by their numbers
unfoldable pub class_paths : List PathForm
class_paths = Predicate (text_of rdf.type_) ∷ Predicate (text_of rdfs.sub_class_of) ∷ ZeroOrMore 1 ∷ Sequence 0 2 ∷ []

-- the forms of all paths by their numbers: those of types and subclasses, and then those of the shapes
unfoldable pub paths : Graph → List PathForm
paths s =
    class_paths ++ filter_map (λ x. option_map (numbered (path_number s)) (path_node s x)) (terms (path_nodes s))

-- the path of the property shape of this number; None of a node shape
unfoldable pub path_of : Graph → ℕ → Option ℕ
path_of s n = option_map (path_number s) (option_and_then (λ x. value_of s x sh.path) (shape_at s n))
