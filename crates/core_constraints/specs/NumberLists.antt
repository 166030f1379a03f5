-- Terms by their numbers in a set. Private functions cite it.
use Rattle.std.specs.Prelude.{◌≡◌, ℕ, List, Some, slice_get, Contains, flat_map}
use Rattle.std.specs.List.Sorted.{IsStrictlyIncreasing}
use Rattle.rdf_terms.specs.declared.term.Term.{Term}
use Rattle.rdf_terms.specs.Nodes.{Nodes}
use Rattle.rdf_terms.specs.Members.{IsListOf}
use Rattle.rdf_terms.specs.Graph.{Graph}
use Rattle.shapes_graph.specs.declared.paths.PathForm.{PathForm}
use Rattle.shapes_graph.specs.declared.paths.PathForm.TheVariants.{Predicate, Inverse}
use Rattle.shapes_profile.specs.Shapes.{shape_at}
use Rattle.shapes_graph.specs.Targets.{targets}
use Rattle.targets.specs.Selection.{named_nodes}
use Rattle.path_eval.specs.Numbered.{terms_at, AreNumbers}
use Rattle.path_eval.specs.declared.direction.Direction.{Direction}
use Rattle.path_eval.specs.declared.direction.Direction.TheVariants.{Forward, Backward}

-- the numbers of exactly the terms with P, ascending
pub record AreNumbersOf (n : Nodes) (P : Term → Type 0) (is : List ℕ) : Type 0 where
  pub within : AreNumbers n is
  pub rises : IsStrictlyIncreasing is
  pub exact : IsListOf P (terms_at n is)

-- path p follows a single triple with the predicate, in this direction
abbrev pub IsStep : List PathForm → ℕ → List ℕ → Direction → Type 0
IsStep ps p i Forward = slice_get ps p ≡ Some (Predicate i)
IsStep ps p i Backward = (q : ℕ) × (slice_get ps p ≡ Some (Inverse q)) × (slice_get ps q ≡ Some (Predicate i))

-- a target of shape n names the term
abbrev pub IsNamed : Graph → ℕ → Term → Type 0
IsNamed s n x = (shape : Term) × (shape_at s n ≡ Some shape) × Contains (flat_map named_nodes (targets s shape)) x
