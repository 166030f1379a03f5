-- The rows of a frame: of one constraint at one focus node. Private functions cite it.
use Rattle.std.specs.Prelude.{◌≡◌, ℕ, Bool, true, false, List, Some, None}
use Rattle.rdf_terms.specs.Statement.{Statement}
use Rattle.rdf_terms.specs.declared.term.Term.{Term}
use Rattle.shapes_graph.specs.Forms.{Form, Least, Most, Having}
use Rattle.shapes_graph.specs.Conformance.{IsOpen}
use Rattle.shapes_graph.specs.Results as results
use Rattle.shapes_graph.specs.Results.{row, row_of_triple}
use Rattle.core_constraints.specs.declared.result_rows.Frame.{Frame}
use Rattle.core_constraints.specs.Findings.{data_of, term_of, IsNodeNumber, IsShapeNumber, IsValueNode, AreValueNodes}
use Rattle.core_constraints.specs.RowLists.{frame_by, IsOwnRowBy}

-- the constraint is one of a shape, and the node has a number
pub record IsFrame (f : Frame) : Type 0 where
  pub shape : IsShapeNumber f.input.now f.constraint.now.shape
  pub node : IsNodeNumber f.input.now f.node

-- the numbers of the value nodes
abbrev pub AreFrameValues : Frame → List ℕ → Type 0
AreFrameValues f values = AreValueNodes f.input.now f.constraint.now.shape f.node values

-- the row whose value is the node of this number
abbrev pub row_of_node : Frame → ℕ → results.ResultRow
row_of_node f a = row (frame_by f) (Some (term_of f.input.now a)) None

-- r is a row of a triple whose subject has V and whose predicate isn't allowed
abbrev pub IsOpenRow : Frame → List Term → (Term → Type 0) → results.ResultRow → Type 0
IsOpenRow f allowed V r =
    (t : Statement) × IsOpen allowed (data_of f.input.now) V t × (r ≡ row_of_triple (frame_by f) t)

-- r is a result of a constraint of this form, but none of a property shape
abbrev pub IsRowOfForm : Frame → Form → results.ResultRow → Type 0
IsRowOfForm f form r =
    IsOwnRowBy f.input.now (IsValueNode f.input.now f.constraint.now.shape f.node) (term_of f.input.now f.node)
    (frame_by f) form r

-- it has one result or none, of all value nodes together
abbrev pub has_one_row : Form → Bool
has_one_row (Least n t) = true
has_one_row (Most n t) = true
has_one_row (Having o) = true
has_one_row _ = false
