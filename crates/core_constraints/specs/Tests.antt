-- What value nodes are asked one by one, and which triples state constraints of a shape. Private functions cite it.
use Rattle.std.specs.Prelude.{◌≡◌, ℕ, Bool, true, false, List, Contains, Some}
use Rattle.rdf_terms.specs.Graph.{Graph}
use Rattle.rdf_terms.specs.declared.term.Term.{Term}
use Rattle.shapes_graph.specs.declared.constraints.Kind.{Kind}
use Rattle.shapes_graph.specs.Constraints.{constraints_of}
use Rattle.shapes_graph.specs.Forms.{Test, Anything, NotObject, Conforming, Form, Every, Nested, Least, Most, form_of}
use Rattle.shapes_graph.specs.Conformance.{IsGood}
use Rattle.core_constraints.specs.declared.input.Input.{Input}
use Rattle.core_constraints.specs.Findings.{data_of, IsConforming}

abbrev pub test_in : Form → Test
test_in (Every t) = t
test_in (Nested u) = Conforming u
test_in (Least n t) = t
test_in (Most n t) = t
test_in _ = Anything

-- not by their number alone, and not against the objects of a predicate
abbrev pub asks_nodes : Test → Bool
asks_nodes Anything = false
asks_nodes (NotObject q) = false
asks_nodes _ = true

-- a constraint of the kind asks the value nodes one by one
abbrev pub is_tested : Kind → Bool
is_tested k = asks_nodes (test_in (form_of k))

-- y passes the test of a constraint of the kind, which doesn't ask of the focus node
abbrev pub IsGoodNode : Input → Kind → Term → Type 0
IsGoodNode i k y = IsGood (data_of i) (IsConforming i) y (test_in (form_of k)) y

-- triple p states a constraint of shape n
abbrev pub IsPlaceOf : Graph → ℕ → ℕ → Type 0
IsPlaceOf s n p = (ps : List ℕ) × (constraints_of s n ≡ Some ps) × Contains ps p
