-- What was found of shapes, nodes and classes. Private functions cite it.
use Rattle.std.specs.Prelude.{◌≡◌, ◌<◌, ◌&&◌, ℕ, Bool, List, length, Some, IsTrue, nat_eq}
use Rattle.std.specs.HashMap.{get}
use Rattle.rdf_terms.specs.declared.term.Term.{Term}
use Rattle.rdf_terms.specs.Nodes.{Nodes, terms, has_term}
use Rattle.rdf_terms.specs.Graph.{Graph}
use Rattle.rdf_terms.specs.Members.{IsSetOf}
use Rattle.rdf_navigation.specs.Instances.{IsSubclass}
use Rattle.rdf_navigation.specs.Numbers.{term_at}
use Rattle.shapes_profile.specs.Shapes.{shape_terms}
use Rattle.shapes_graph.specs.Reach.{IsValue}
use Rattle.shapes_graph.specs.Targets.{IsFocus}
use Rattle.shapes_graph.specs.Conformance.{ConformsTo}
use Rattle.core_constraints.specs.declared.input.Input.{Input}
use Rattle.core_constraints.specs.declared.memo.Memo.{Memo}
use Rattle.core_constraints.specs.declared.memo.Validation.{Validation}
use Rattle.core_constraints.specs.Decisions.{Says}
use Rattle.core_constraints.specs.NumberLists.{AreNumbersOf}

abbrev pub same_validation : Validation → Validation → Bool
same_validation a b = nat_eq a.shape b.shape && nat_eq a.node b.node

module _ (i : Input) where
  abbrev pub shapes_of : Graph
  shapes_of = i.shapes.now

  abbrev pub data_of : Graph
  data_of = i.graph.graph

  abbrev pub term_of : ℕ → Term
  term_of x = term_at i.graph.nodes x

  -- x is the number of a node
  abbrev pub IsNodeNumber : ℕ → Type 0
  IsNodeNumber x = x < length (terms i.graph.nodes)

  -- n is the number of a shape
  abbrev pub IsShapeNumber : ℕ → Type 0
  IsShapeNumber n = n < length (shape_terms shapes_of)

  -- y conforms to shape n
  abbrev pub IsConforming : ℕ → Term → Type 0
  IsConforming n y = ConformsTo shapes_of data_of n y

  -- y is a value node of node x for shape n
  abbrev pub IsValueNode : ℕ → ℕ → Term → Type 0
  IsValueNode n x y = IsValue shapes_of n data_of (term_of x) y

  -- the numbers of the value nodes of node x for shape n
  abbrev pub AreValueNodes : ℕ → ℕ → List ℕ → Type 0
  AreValueNodes n x values = AreNumbersOf i.graph.nodes (IsValueNode n x) values

  -- all focus nodes have numbers
  abbrev pub HasFocusNodes : Type 0
  HasFocusNodes = (n : ℕ) (x : Term) → IsFocus shapes_of n data_of x → IsTrue (has_term i.graph.nodes x)

-- each verdict is right, and each set has exactly the subclasses
pub record IsTruthful (i : Input) (m : Memo) : Type 0 where
  pub verdict : (v : Validation) (b : Bool) → get same_validation m.verdicts v ≡ Some b
      → Says b (IsConforming i v.shape (term_of i v.node))
  pub subclasses : (c : ℕ) (ns : Nodes) → get nat_eq m.classes c ≡ Some ns
      → IsSetOf (λ b. IsSubclass (data_of i) b (term_of i c)) ns
