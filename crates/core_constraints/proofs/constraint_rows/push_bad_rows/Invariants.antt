use Rattle.std.proofs.Common.{◌≡◌}
use Rattle.core_constraints.specs.Findings.{term_of, IsTruthful}
use Rattle.core_constraints.specs.Tests.{IsGoodNode}
use Rattle.core_constraints.specs.RowLists.{Gains}
use Rattle.core_constraints.specs.FrameRows.{row_of_node}
use Rattle.core_constraints.proofs.RowLaws.{IsRowOfFirst}
use Rattle.core_constraints.proofs.constraint_rows.push_bad_rows.Given as goal

abbrev pub invariant-values : goal.invariant-values
invariant-values l =
    IsTruthful l.frame.input.now l.memo
    × Gains l.initial.rows (IsRowOfFirst (λ a r. (¬ (IsGoodNode l.frame.input.now l.frame.constraint.now.kind (term_of l.frame.input.now a))) × (r ≡ row_of_node l.frame a)) l.values l.value-index) l.rows
