use Rattle.std.proofs.Common.{◌≡◌, Some, None, map}
use Rattle.shapes_graph.specs.Results.{row}
use Rattle.core_constraints.specs.RowLists.{Gains}
use Rattle.core_constraints.specs.RowLists.{frame_by}
use Rattle.core_constraints.proofs.RowLaws.{IsRowOfFirst}
use Rattle.core_constraints.proofs.constraint_rows.push_tag_rows.Given as goal

abbrev pub invariant-tags : goal.invariant-tags
invariant-tags l = Gains l.initial.rows (IsRowOfFirst (λ tag r. r ≡ row (frame_by l.frame) None (Some tag)) (map (λ t. t.now) l.tag-items) l.tag-index) l.rows
