use Rattle.std.proofs.Common.{◌≡◌, Contains}
use Rattle.core_constraints.specs.Decisions.{Says}
use Rattle.core_constraints.specs.RowLists.{Gains}
use Rattle.core_constraints.specs.FrameRows.{row_of_node}
use Rattle.core_constraints.proofs.RowLaws.{IsRowOfFirst}
use Rattle.core_constraints.proofs.constraint_rows.push_rows_of_nodes.Given as goal

abbrev pub invariant-nodes : goal.invariant-nodes
invariant-nodes l = Gains l.initial.rows (IsRowOfFirst (λ a r. Says l.among (Contains l.others a) × (r ≡ row_of_node l.frame a)) l.nodes l.node-index) l.rows
