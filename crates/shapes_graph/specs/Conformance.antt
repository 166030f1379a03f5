-- When a constraint holds and a node conforms to a shape (SHACL 2017, sections 3.4, 3.5 and 4).
use Rattle.std.specs.Prelude.{◌≡◌, ◌≢◌, ℕ, zero, suc, ◌+◌, IsTrue, IsFalse, List, Contains, Option, Some, None}
use Rattle.std.specs.Ordering.{nat_cmp}
use Rattle.rdf_terms.specs.Term.{term_cmp}
use Rattle.rdf_terms.specs.Statement.{Statement}
use Rattle.rdf_terms.specs.Graph.{Graph, has}
use Rattle.rdf_terms.specs.Members.{InGraph}
use Rattle.rdf_terms.specs.declared.term.Term.{Term}
use Rattle.rdf_terms.specs.declared.term.Term.TheVariants.{Iri}
use Rattle.rdf_navigation.specs.Values.{among}
use Rattle.rdf_navigation.specs.Instances.{IsInstance}
use Rattle.shapes_profile.specs.Logic.{EachOf, SomeOf, NoneFails, Unless, AtLeast}
use Rattle.shapes_graph.specs.NodeTests.{tag_of}
use Rattle.shapes_graph.specs.declared.constraints.Constraint.{Constraint}
use Rattle.shapes_graph.specs.Constraints.{constraint_at, constraints_of, is_deactivated}
use Rattle.shapes_graph.specs.Forms.{Test, Anything, Passes, IsA, NotObject, Conforming, Failing, AllOf, SomeOfThese}
use Rattle.shapes_graph.specs.Forms.{OneOf, Counted, Form, Every, Nested, Closing, Least, Most, Having, Same, Unique}
use Rattle.shapes_graph.specs.Forms.{form_of}
use Rattle.shapes_graph.specs.Reach.{IsValue}
use Rattle.shapes_graph.specs.Targets.{IsFocus}

-- nothing has V alone, and nothing has W alone
pub record Agree (V W : Term → Type 0) : Type 0 where
  pub no_value_alone : ¬ ((y : Term) × V y × ¬ (W y))
  pub no_object_alone : ¬ ((y : Term) × W y × ¬ (V y))

-- a triple with a value node as subject and a predicate that isn't allowed (section 4.8.1)
pub record IsOpen (allowed : List Term) (g : Graph) (V : Term → Type 0) (t : Statement) : Type 0 where
  pub there : IsTrue (has g t)
  pub subject : V t.subject
  pub other : IsFalse (among allowed t.predicate)

-- two value nodes with the same language tag (section 4.4.5)
pub record AreTwins (V : Term → Type 0) (y z : Term) (tag : List ℕ) : Type 0 where
  pub differ : y ≢ z
  pub first : V y
  pub second : V z
  pub first_tag : tag_of y ≡ Some tag
  pub second_tag : tag_of z ≡ Some tag

-- C: which nodes conform to which shapes
module _ (g : Graph) (C : ℕ → Term → Type 0) where
  -- to one of the shapes, and not to two
  abbrev pub OneConforms : List ℕ → Term → Type 0
  OneConforms us y =
      AtLeast nat_cmp (λ u. Contains us u × C u y) 1 × ¬ (AtLeast nat_cmp (λ u. Contains us u × C u y) 2)

  -- the value node y of the focus node x passes the test
  abbrev pub IsGood : Term → Test → Term → Type 0
  IsGood x Anything y = Unit {0}
  IsGood x (Passes test) y = IsTrue (test y)
  IsGood x (IsA c) y = IsInstance g y c
  IsGood x (NotObject q) y = ¬ (InGraph g x (Iri q) y)
  IsGood x (Conforming u) y = C u y
  IsGood x (Failing u) y = ¬ (C u y)
  IsGood x (AllOf us) y = EachOf (λ u. C u y) us
  IsGood x (SomeOfThese us) y = SomeOf (λ u. C u y) us
  IsGood x (OneOf us) y = OneConforms us y
  IsGood x (Counted u us) y = C u y × EachOf (λ v. ¬ (C v y)) us

  -- of the focus node x with the value nodes V
  abbrev pub HoldsBy : (Term → Type 0) → Term → Form → Type 0
  HoldsBy V x (Every t) = NoneFails V (IsGood x t)
  HoldsBy V x (Nested u) = NoneFails V (C u)
  HoldsBy V x (Closing on allowed) = IsTrue on → ¬ ((t : Statement) × IsOpen allowed g V t)
  HoldsBy V x (Least n t) = AtLeast term_cmp (λ y. V y × IsGood x t y) n
  HoldsBy V x (Most n t) = ¬ (AtLeast term_cmp (λ y. V y × IsGood x t y) (n + 1))
  HoldsBy V x (Having o) = V o
  HoldsBy V x (Same q) = Agree V (InGraph g x (Iri q))
  HoldsBy V x (Unique on) = IsTrue on → ¬ ((y : Term) × (z : Term) × (tag : List ℕ) × AreTwins V y z tag)

-- of a constraint, if there is one
abbrev pub OfConstraint : Option Constraint → (Constraint → Type 0) → Type 0
OfConstraint None P = ⊥
OfConstraint (Some c) P = P c

-- the constraint of triple i of the sorted shapes graph holds for x
abbrev pub HoldsIn : Graph → Graph → (ℕ → Term → Type 0) → Term → ℕ → Type 0
HoldsIn s g C x i = OfConstraint (constraint_at s i) (λ c. HoldsBy g C (IsValue s c.shape g x) x (form_of c.kind))

-- all of these, unless the shape is deactivated
abbrev pub ConformsBy : Graph → Graph → (ℕ → Term → Type 0) → ℕ → Term → Option (List ℕ) → Type 0
ConformsBy s g C n x None = ⊥
ConformsBy s g C n x (Some is) = Unless (is_deactivated s n) (EachOf (HoldsIn s g C x) is)

-- for a shape of a rank less than d
unfoldable pub ConformsToIn : ℕ → Graph → Graph → ℕ → Term → Type 0
ConformsToIn zero s g n x = ⊥
ConformsToIn (suc d) s g n x = ConformsBy s g (λ u y. ConformsToIn d s g u y) n x (constraints_of s n)

-- in the profile no shape has a rank over 128
abbrev pub shape_levels : ℕ
shape_levels = 129

-- x conforms to shape n, in the data graph g
unfoldable pub ConformsTo : Graph → Graph → ℕ → Term → Type 0
ConformsTo s g n x = ConformsToIn shape_levels s g n x

-- the constraint of triple i holds for x
abbrev pub Holds : Graph → ℕ → Graph → Term → Type 0
Holds s i g x = HoldsIn s g (λ u y. ConformsTo s g u y) x i

-- each focus node of each shape conforms to it
unfoldable pub Conforms : Graph → Graph → Type 0
Conforms s g = (n : ℕ) (x : Term) → IsFocus s n g x → ConformsTo s g n x
