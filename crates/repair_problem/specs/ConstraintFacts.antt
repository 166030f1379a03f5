-- What is asked of one value node of a constraint, and of the first of them, by the form of the constraint (SHACL 2017,
-- section 4).
use Rattle.std.specs.Prelude.{◌≡◌, ℕ, IsTrue, take, Contains}
use Rattle.std.specs.Ordering.{nat_cmp}
use Rattle.rdf_terms.specs.declared.term.Term.{Term}
use Rattle.rdf_terms.specs.declared.term.Term.TheVariants.{Iri}
use Rattle.rdf_terms.specs.Term.{term_cmp}
use Rattle.rdf_terms.specs.Statement.{Statement}
use Rattle.rdf_terms.specs.Graph.{Graph}
use Rattle.rdf_terms.specs.Nodes.{Nodes, terms}
use Rattle.rdf_terms.specs.Members.{InGraph, IsSetOf}
use Rattle.shapes_profile.specs.Logic.{AtLeast}
use Rattle.shapes_graph.specs.Forms.{Test, NotObject, OneOf, Form, Every, Nested, Closing, Least, Most, Same}
use Rattle.shapes_graph.specs.Conformance.{IsGood, IsOpen}

-- of the first j terms with W, in the order of terms, at least m have P
pub record AtLeastOfFirst (W P : Term → Type 0) (j m : ℕ) : Type 0 where
  pub counted : Nodes
  pub all : IsSetOf W counted
  pub enough : AtLeast term_cmp (λ y. Contains (take j (terms counted)) y × P y) m

-- C: which nodes conform to which shapes
module _ (g : Graph) (C : ℕ → Term → Type 0) where
  -- the node passes the test, whatever the focus node
  abbrev pub PassesAlone : Test → Term → Type 0
  PassesAlone (NotObject q) y = ⊥
  PassesAlone t y = IsGood g C y t y

  -- the node passes the constraint as a single value node, whatever the focus node; of a count, it is counted
  abbrev pub PassesBy : Form → Term → Type 0
  PassesBy (Every t) y = PassesAlone t y
  PassesBy (Nested u) y = C u y
  PassesBy (Closing on allowed) y = IsTrue on → ¬ ((t : Statement) × IsOpen allowed g (λ z. y ≡ z) t)
  PassesBy (Least n t) y = PassesAlone t y
  PassesBy (Most n t) y = PassesAlone t y
  PassesBy _ y = ⊥

  -- V: the value nodes of the focus node x
  module _ (V : Term → Type 0) (x : Term) where
    -- y is a value node that violates the constraint; of a count, it is counted
    abbrev pub MarkedBy : Form → Term → Type 0
    MarkedBy (Every t) y = V y × ¬ (IsGood g C x t y)
    MarkedBy (Nested u) y = V y × ¬ (C u y)
    MarkedBy (Closing on allowed) y = V y × ¬ (PassesBy (Closing on allowed) y)
    MarkedBy (Least n t) y = V y × IsGood g C x t y
    MarkedBy (Most n t) y = V y × IsGood g C x t y
    MarkedBy (Same q) y = V y × ¬ (InGraph g x (Iri q) y)
    MarkedBy _ y = ⊥

    -- y is an object of the focus node and the predicate, and no value node
    abbrev pub DiffersBy : Form → Term → Type 0
    DiffersBy (Same q) y = (¬ (V y)) × InGraph g x (Iri q) y
    DiffersBy _ y = ⊥

    -- of the first j shapes of the list, the node x conforms to at least m
    abbrev pub CountsShapes : Test → ℕ → ℕ → Type 0
    CountsShapes (OneOf us) j m = AtLeast nat_cmp (λ u. Contains (take j us) u × C u x) m
    CountsShapes _ j m = ⊥

    -- of the first j things that a constraint counts, at least m are to be counted; W: the value nodes with all
    -- candidates in the graph
    abbrev pub CountsBy : (Term → Type 0) → Form → ℕ → ℕ → Type 0
    CountsBy W (Every t) j m = CountsShapes t j m
    CountsBy W (Least n t) j m = AtLeastOfFirst W (λ y. V y × IsGood g C x t y) j m
    CountsBy W (Most n t) j m = AtLeastOfFirst W (λ y. V y × IsGood g C x t y) j m
    CountsBy W _ j m = ⊥
