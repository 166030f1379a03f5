-- The validations of a list, and to which others one leads. Private functions cite it.
use Rattle.std.specs.Prelude.{◌≡◌, ◌<◌, ◌↔◌, ◌⊎◌, ℕ, List, map, length, slice_get, Contains, IsFalse}
use Rattle.rdf_terms.specs.declared.term.Term.{Term}
use Rattle.rdf_terms.specs.Graph.{Graph}
use Rattle.shapes_graph.specs.declared.constraints.Kind.TheVariants as kind
use Rattle.shapes_graph.specs.Constraints.{constraint_at, is_deactivated}
use Rattle.shapes_graph.specs.Conformance.{OfConstraint}
use Rattle.shapes_graph.specs.Forms.{form_of}
use Rattle.shapes_graph.specs.Reach.{IsValue}
use Rattle.shapes_graph.specs.Results as results
use Rattle.shapes_graph.specs.Targets.{IsFocus}
use Rattle.core_constraints.specs.declared.input.Input.{Input}
use Rattle.core_constraints.specs.declared.memo.Validation.{Validation}
use Rattle.core_constraints.specs.Findings.{shapes_of, data_of, term_of, IsNodeNumber, IsShapeNumber}
use Rattle.core_constraints.specs.RowLists.{IsOwnRowBy}
use Rattle.core_constraints.specs.RowLists.{frame_for}
use Rattle.core_constraints.specs.Tests.{IsPlaceOf}

-- the number of a shape, and a node that is validated against it
abbrev pub pair_of : Input → Validation → ℕ × Term
pair_of i v = (v.shape, term_of i v.node)

abbrev pub pairs_of : Input → List Validation → List (ℕ × Term)
pairs_of i vs = map (pair_of i) vs

-- the validations are of shapes and of nodes that there are
abbrev pub AreValidations : Input → List Validation → Type 0
AreValidations i vs = (v : Validation) → Contains vs v → IsShapeNumber i v.shape × IsNodeNumber i v.node

-- a list to which the validations with P were appended, as far as they weren't there
pub record Adds (old new : List Validation) (P : Validation → Type 0) : Type 0 where
  pub kept : (k : ℕ) → k < length old → slice_get new k ≡ slice_get old k
  pub exact : (v : Validation) → Contains new v ↔ (Contains old v ⊎ P v)

-- the validations of exactly the focus nodes
pub record AreOfFocusNodes (i : Input) (vs : List Validation) : Type 0 where
  pub within : AreValidations i vs
  pub exact : (p : ℕ × Term) → Contains (pairs_of i vs) p ↔ IsFocus (shapes_of i) p.0 (data_of i) p.1

-- triple p states that value nodes are to conform to the property shape u (section 4.7.2)
abbrev pub IsNested : Graph → ℕ → ℕ → Type 0
IsNested s p u = OfConstraint (constraint_at s p) (λ c. c.kind ≡ kind.Property u)

-- a constraint of the shape states that its value nodes, of which this is one, are to conform to the property shape
pub record Leads (s g : Graph) (from to : ℕ × Term) : Type 0 where
  pub active : IsFalse (is_deactivated s from.0)
  pub place : ℕ
  pub own : IsPlaceOf s from.0 place
  pub nested : IsNested s place to.0
  pub value : IsValue s from.0 g from.1 to.1

-- a list to which the validations were appended to which one leads, as far as they weren't there
pub record Follows (i : Input) (from : Validation) (old new : List Validation) : Type 0 where
  pub kept : (k : ℕ) → k < length old → slice_get new k ≡ slice_get old k
  pub within : AreValidations i old → AreValidations i new
  pub exact : (p : ℕ × Term) → Contains (pairs_of i new) p
      ↔ (Contains (pairs_of i old) p ⊎ Leads (shapes_of i) (data_of i) (pair_of i from) p)

-- r is a result of the constraint that triple p states at x, but none of a property shape
abbrev pub IsRowAt : Input → ℕ → Term → results.ResultRow → Type 0
IsRowAt i p x r =
    OfConstraint (constraint_at (shapes_of i) p) (λ c. IsOwnRowBy i (IsValue (shapes_of i) c.shape (data_of i) x) x
    (frame_for (shapes_of i) c x) (form_of c.kind) r)
