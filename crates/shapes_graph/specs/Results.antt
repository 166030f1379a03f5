-- Validation results (SHACL 2017, sections 3.6 and 4).
use Rattle.std.specs.Prelude.{◌≡◌, ◌⊎◌, ℕ, zero, suc, IsTrue, IsFalse, List, [], Contains, Option, Some, None}
use Rattle.std.specs.Prelude.{option_and_then, option_map, unwrap_or}
use Rattle.rdf_terms.specs.Statement.{Statement}
use Rattle.rdf_terms.specs.Graph.{Graph}
use Rattle.rdf_terms.specs.Members.{InGraph}
use Rattle.rdf_terms.specs.declared.term.Term.{Term}
use Rattle.rdf_terms.specs.declared.term.Term.TheVariants.{Iri}
use Rattle.rdf_terms.specs.Vocab.Sh as sh
use Rattle.rdf_navigation.specs.Values.{value_of}
use Rattle.shapes_profile.specs.Shapes.{shape_at}
use Rattle.shapes_graph.specs.PathForms.{text_of}
use Rattle.shapes_graph.specs.Constraints.{constraint_at, constraints_of, component_of, is_deactivated, severity_of}
use Rattle.shapes_graph.specs.Forms.{Form, Every, Nested, Closing, Least, Most, Having, Same, Unique, form_of}
use Rattle.shapes_graph.specs.Reach.{IsValue}
use Rattle.shapes_graph.specs.Targets.{IsFocus}
use Rattle.shapes_graph.specs.Conformance.{IsGood, HoldsBy, OfConstraint, IsOpen, AreTwins, ConformsTo, shape_levels}

pub record ResultRow : Type 0 where
  pub focus : Term
  pub shape : Term
  pub component : List ℕ
  pub path : Option Term
  pub value : Option Term
  pub message : Option (List ℕ)
  pub severity : Term

-- what all results of a constraint at a focus node have in common, but for the path of those of Closing
pub record Frame : Type 0 where
  pub focus : Term
  pub shape : Term
  pub component : List ℕ
  pub path : Option Term
  pub severity : Term

abbrev pub row : Frame → Option Term → Option (List ℕ) → ResultRow
row f v m =
    record {
      focus = f.focus;
      shape = f.shape;
      component = f.component;
      path = f.path;
      value = v;
      message = m;
      severity = f.severity;
    }

-- of a triple whose predicate isn't allowed: the predicate is the path, and the object the value (section 4.8.1)
abbrev pub row_of_triple : Frame → Statement → ResultRow
row_of_triple f t = row (record f { path = Some t.predicate }) (Some t.object) None

-- y is in one of the two sets alone
abbrev pub IsAlone : (Term → Type 0) → (Term → Type 0) → Term → Type 0
IsAlone V W y = (V y × ¬ (W y)) ⊎ (W y × ¬ (V y))

-- C: which nodes conform to which shapes; N: the results of other shapes at a node
module _ (g : Graph) (C : ℕ → Term → Type 0) (N : ℕ → Term → ResultRow → Type 0) where
  -- r is a result of the constraint at the focus node x with the value nodes V
  abbrev pub IsRowBy : (Term → Type 0) → Term → Frame → Form → ResultRow → Type 0
  IsRowBy V x f (Every t) r = (y : Term) × V y × (¬ (IsGood g C x t y)) × (r ≡ row f (Some y) None)
  IsRowBy V x f (Nested u) r = (y : Term) × V y × N u y r
  IsRowBy V x f (Closing on allowed) r = IsTrue on × ((t : Statement) × IsOpen allowed g V t × (r ≡ row_of_triple f t))
  IsRowBy V x f (Least n t) r = (¬ (HoldsBy g C V x (Least n t))) × (r ≡ row f None None)
  IsRowBy V x f (Most n t) r = (¬ (HoldsBy g C V x (Most n t))) × (r ≡ row f None None)
  IsRowBy V x f (Having o) r = (¬ (V o)) × (r ≡ row f None None)
  IsRowBy V x f (Same q) r = (y : Term) × IsAlone V (InGraph g x (Iri q)) y × (r ≡ row f (Some y) None)
  IsRowBy V x f (Unique on) r =
      IsTrue on × ((y : Term) × (z : Term) × (tag : List ℕ) × AreTwins V y z tag × (r ≡ row f None (Some tag)))

-- of triple i, which states a constraint of shape n
abbrev pub frame_of : Graph → ℕ → ℕ → Term → Frame
frame_of s n i x =
    record {
      focus = x;
      shape = unwrap_or (shape_at s n) (Iri []);
      component = unwrap_or (option_map text_of (option_and_then (λ c. component_of c.kind) (constraint_at s i))) [];
      path = option_and_then (λ t. value_of s t sh.path) (shape_at s n);
      severity = severity_of s n;
    }

-- r is a result of one of these constraints, and the shape isn't deactivated
abbrev pub IsRowOf : Graph → Graph → (ℕ → Term → ResultRow → Type 0) → ℕ → Term → ResultRow → Option (List ℕ) → Type 0
IsRowOf s g N n x r None = ⊥
IsRowOf s g N n x r (Some is) =
    IsFalse (is_deactivated s n)
    × ((i : ℕ) × Contains is i
    × OfConstraint (constraint_at s i) (λ c.
    IsRowBy g (λ u y. ConformsTo s g u y) N (IsValue s c.shape g x) x (frame_of s n i x) (form_of c.kind) r))

-- for a shape of a rank less than d
unfoldable pub IsRowIn : ℕ → Graph → Graph → ℕ → Term → ResultRow → Type 0
IsRowIn zero s g n x r = ⊥
IsRowIn (suc d) s g n x r = IsRowOf s g (λ u y q. IsRowIn d s g u y q) n x r (constraints_of s n)

-- r is a validation result of the data graph g
unfoldable pub IsResult : Graph → Graph → ResultRow → Type 0
IsResult s g r = (n : ℕ) × (x : Term) × IsFocus s n g x × IsRowIn shape_levels s g n x r

abbrev pub HasNoResult : Graph → Graph → Type 0
HasNoResult s g = ¬ ((r : ResultRow) × IsResult s g r)
