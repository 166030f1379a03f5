-- The rows of one constraint at one focus node. Private functions cite it.
use Rattle.std.specs.Prelude.{◌↔◌, ◌⊎◌, ℕ, List, [], Contains, map, option_and_then, option_map, unwrap_or}
use Rattle.rdf_terms.specs.declared.term.Term.{Term}
use Rattle.rdf_terms.specs.declared.term.Term.TheVariants.{Iri}
use Rattle.rdf_terms.specs.Graph.{Graph}
use Rattle.rdf_terms.specs.Vocab.Sh as sh
use Rattle.rdf_navigation.specs.Values.{value_of}
use Rattle.shapes_profile.specs.Shapes.{shape_at}
use Rattle.shapes_graph.specs.declared.constraints.Constraint.{Constraint}
use Rattle.shapes_graph.specs.Forms.{Form}
use Rattle.shapes_graph.specs.PathForms.{text_of}
use Rattle.shapes_graph.specs.Results as results
use Rattle.shapes_graph.specs.Results.{IsRowBy, IsRowOf}
use Rattle.shapes_graph.specs.Constraints.{constraints_of, component_of, severity_of}
use Rattle.core_constraints.specs.declared.input.Input.{Input}
use Rattle.core_constraints.specs.declared.result_rows.Frame.{Frame}
use Rattle.core_constraints.specs.declared.result_rows.ResultRow.{ResultRow}
use Rattle.core_constraints.specs.Findings.{shapes_of, data_of, term_of, IsConforming}
use Rattle.core_constraints.specs.Rows.{result_of}

-- to the old rows come those of exactly these results
abbrev pub Gains : List ResultRow → (results.ResultRow → Type 0) → List ResultRow → Type 0
Gains old P new = (r : results.ResultRow)
    → Contains (map result_of new) r ↔ (Contains (map result_of old) r ⊎ P r)

-- what all results of a constraint at a focus node have in common
abbrev pub frame_for : Graph → Constraint → Term → results.Frame
frame_for s c x =
    record {
      focus = x;
      shape = unwrap_or (shape_at s c.shape) (Iri []);
      component = unwrap_or (option_map text_of (component_of c.kind)) [];
      path = option_and_then (λ t. value_of s t sh.path) (shape_at s c.shape);
      severity = severity_of s c.shape;
    }

-- no shape has results
abbrev pub IsNoRow : ℕ → Term → results.ResultRow → Type 0
IsNoRow u y r = ⊥

abbrev pub frame_by : Frame → results.Frame
frame_by f = frame_for (shapes_of f.input.now) f.constraint.now (term_of f.input.now f.node)

-- r is a result of a constraint with this frame and these value nodes, but none of a property shape
abbrev pub IsOwnRowBy : Input → (Term → Type 0) → Term → results.Frame → Form → results.ResultRow → Type 0
IsOwnRowBy i V x f form r = IsRowBy (data_of i) (IsConforming i) IsNoRow V x f form r

-- r is a result of shape n at x, but none of another property shape
abbrev pub IsOwnRow : Input → ℕ → Term → results.ResultRow → Type 0
IsOwnRow i n x r = IsRowOf (shapes_of i) (data_of i) IsNoRow n x r (constraints_of (shapes_of i) n)
