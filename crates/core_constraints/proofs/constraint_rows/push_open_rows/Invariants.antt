use Rattle.std.proofs.Common.{◌≡◌}
use Rattle.core_constraints.specs.Findings.{term_of}
use Rattle.core_constraints.specs.RowLists.{Gains}
use Rattle.core_constraints.specs.FrameRows.{IsOpenRow}
use Rattle.core_constraints.proofs.RowLaws.{IsRowOfFirst}
use Rattle.core_constraints.proofs.constraint_rows.push_open_rows.Given as goal

abbrev pub invariant-values : goal.invariant-values
invariant-values l = Gains l.initial.rows (IsRowOfFirst (λ a. IsOpenRow l.frame l.allowed (λ y. y ≡ term_of l.frame.input.now a)) l.values l.value-index) l.rows
