-- The nodes that one target selects (SHACL 2017, section 2.1.3). Private functions cite it.
use Rattle.std.specs.Prelude.{◌≡◌, List, [], ◌∷◌}
use Rattle.rdf_terms.specs.declared.term.Term.{Term}
use Rattle.rdf_terms.specs.declared.term.Term.TheVariants.{Iri}
use Rattle.rdf_terms.specs.Graph.{Graph}
use Rattle.rdf_terms.specs.Members.{InGraph}
use Rattle.rdf_navigation.specs.Instances.{IsInstance}
use Rattle.shapes_graph.specs.declared.targets.Target.{Target}
use Rattle.shapes_graph.specs.declared.targets.Target.TheVariants.{Node, Class, SubjectsOf, ObjectsOf}

abbrev pub IsSelected : Graph → Term → Target → Type 0
IsSelected g x (Node y) = y ≡ x
IsSelected g x (Class c) = IsInstance g x c
IsSelected g x (SubjectsOf p) = (y : Term) × InGraph g x (Iri p) y
IsSelected g x (ObjectsOf p) = (y : Term) × InGraph g y (Iri p) x

-- the node that the target names, if it names one
abbrev pub named_nodes : Target → List Term
named_nodes (Node y) = y ∷ []
named_nodes (Class c) = []
named_nodes (SubjectsOf p) = []
named_nodes (ObjectsOf p) = []
