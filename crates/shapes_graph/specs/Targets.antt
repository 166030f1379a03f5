-- Targets and focus nodes (SHACL 2017, section 2.1.3).
use Rattle.std.specs.Prelude.{◌≡◌, ℕ, ◌⊎◌, IsTrue, List, [], ◌∷◌, ◌++◌, filter_map, Option, Some, None}
use Rattle.std.specs.Prelude.{option_and_then, if◌then◌else◌}
use Rattle.rdf_terms.specs.Statement.{Statement}
use Rattle.rdf_terms.specs.Graph.{Graph, triples}
use Rattle.rdf_terms.specs.Members.{InGraph}
use Rattle.rdf_terms.specs.declared.term.Term.{Term}
use Rattle.rdf_terms.specs.Vocab.Sh as sh
use Rattle.rdf_navigation.specs.Values.{same_term}
use Rattle.rdf_navigation.specs.Instances.{IsInstance}
use Rattle.shapes_profile.specs.declared.properties.Property.{Property}
use Rattle.shapes_profile.specs.declared.properties.Property.TheVariants.{TargetNode, TargetClass, TargetSubjectsOf}
use Rattle.shapes_profile.specs.declared.properties.Property.TheVariants.{TargetObjectsOf}
use Rattle.shapes_graph.specs.declared.targets.Target.{Target}
use Rattle.shapes_graph.specs.declared.targets.Target.TheVariants.{Node, Class, SubjectsOf, ObjectsOf}
use Rattle.shapes_profile.specs.Shapes.{is_implicit_class, shape_at}
use Rattle.shapes_graph.specs.PathForms.{text_of}
use Rattle.shapes_profile.specs.Properties.{property_of}

abbrev pub target_of : Term → Property → Option Target
target_of o TargetNode = Some (Node o)
target_of o TargetClass = Some (Class o)
target_of o TargetSubjectsOf = Some (SubjectsOf (text_of o))
target_of o TargetObjectsOf = Some (ObjectsOf (text_of o))
target_of o _ = None

-- the target that a triple states for the shape, if it states one
abbrev pub target_by : Term → Statement → Option Target
target_by x t =
    if same_term t.subject x then option_and_then (target_of t.object) (property_of t.predicate) else None

-- in the order of the graph, an implicit class target at the end
unfoldable pub targets : Graph → Term → List Target
targets s x = filter_map (target_by x) (triples s) ++ (if is_implicit_class s x then Class x ∷ [] else [])

-- x is a focus node of the shape
abbrev pub IsFocusOf : Graph → Term → Graph → Term → Type 0
IsFocusOf s shape g x =
    InGraph s shape sh.target_node x
    ⊎ ((c : Term) × InGraph s shape sh.target_class c × IsInstance g x c)
    ⊎ (IsTrue (is_implicit_class s shape) × IsInstance g x shape)
    ⊎ ((q : Term) × (y : Term) × InGraph s shape sh.target_subjects_of q × InGraph g x q y)
    ⊎ ((q : Term) × (y : Term) × InGraph s shape sh.target_objects_of q × InGraph g y q x)

-- x is a focus node of the shape of this number
unfoldable pub IsFocus : Graph → ℕ → Graph → Term → Type 0
IsFocus s n g x = (shape : Term) × (shape_at s n ≡ Some shape) × IsFocusOf s shape g x
