use Rattle.std.proofs.Common.{◌≡◌}
use Rattle.std.specs.Prelude.{IsFalse}
use Rattle.rdf_navigation.specs.Values.{among}
use Rattle.shapes_graph.specs.Results.{row_of_triple}
use Rattle.core_constraints.specs.RowLists.{Gains}
use Rattle.core_constraints.specs.RowLists.{frame_by}
use Rattle.core_constraints.proofs.RowLaws.{IsRowOfFirst}
use Rattle.core_constraints.proofs.constraint_rows.push_open_rows_of_value.Given as goal

abbrev pub invariant-triples : goal.invariant-triples
invariant-triples l = Gains l.initial.rows (IsRowOfFirst (λ t r. IsFalse (among l.allowed t.predicate) × (r ≡ row_of_triple (frame_by l.frame) t)) l.triple-items l.triple-index) l.rows
