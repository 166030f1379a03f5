-- How deep shapes refer to shapes (SHACL 2017, section 3.4.3). Private functions cite it.
use Rattle.std.specs.Prelude.{◌≡◌, ◌<◌, ℕ, List, length, slice_get, Contains, Some}
use Rattle.std.specs.Prelude.{option_and_then, unwrap_or}
use Rattle.rdf_terms.specs.Graph.{Graph}
use Rattle.shapes_profile.specs.Shapes.{shape_terms, shape_at}
use Rattle.shapes_profile.specs.References.{rank}
use Rattle.shapes_graph.specs.declared.constraints.Constraint.{Constraint}
use Rattle.shapes_graph.specs.declared.constraints.Kind.TheVariants as kind
use Rattle.shapes_graph.specs.Constraints.{constraint_at, shapes_of_kind}

-- the rank of the shape of this number, and 0 where there is none
unfoldable pub level : Graph → ℕ → ℕ
level s n = unwrap_or (option_and_then (rank s) (shape_at s n)) 0

-- the numbers are of shapes of a lower rank than the owner
abbrev pub AreLower : Graph → ℕ → List ℕ → Type 0
AreLower s owner us = (u : ℕ) → Contains us u → (u < length (shape_terms s)) × (level s u < level s owner)

-- no number stands at two places
abbrev pub AreDistinct : List ℕ → Type 0
AreDistinct us = (i j u : ℕ) → slice_get us i ≡ Some u → slice_get us j ≡ Some u → i ≡ j

-- c is the constraint of triple i, the shapes that it refers to are of lower ranks than its own, and the members of
-- sh:xone are distinct
pub record IsStated (s : Graph) (i : ℕ) (c : Constraint) : Type 0 where
  pub stated : constraint_at s i ≡ Some c
  pub owner : c.shape < length (shape_terms s)
  pub lower : AreLower s c.shape (shapes_of_kind c.kind)
  pub once : (us : List ℕ) → c.kind ≡ kind.Xone us → AreDistinct us
