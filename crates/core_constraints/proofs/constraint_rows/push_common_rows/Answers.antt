use Rattle.std.proofs.Common.{◌≡◌, ℕ, List, true, Contains, sym, subst}
use Rattle.std.specs.List.Sorted.{IsStrictlyIncreasing}
use Rattle.shapes_graph.specs.Forms.{Every, NotObject}
use Rattle.shapes_graph.specs.Results as results
use Rattle.path_eval.proofs.GrowthLaws.{on_ok}
use Rattle.core_constraints.specs.Decisions.{Says}
use Rattle.core_constraints.specs.Findings.{data_of, term_of, IsConforming, IsValueNode}
use Rattle.core_constraints.specs.RowLists.{Gains}
use Rattle.core_constraints.specs.RowLists.{IsNoRow, frame_by}
use Rattle.core_constraints.specs.FrameRows.{row_of_node, IsRowOfForm}
use Rattle.core_constraints.proofs.RowLaws.{gains_iff, common_rows}
use Rattle.core_constraints.proofs.constraint_rows.push_common_rows.Goals as goal

pub objects_of-requires : goal.objects_of-requires
objects_of-requires c = c.requires.frame.node

pub push_rows_of_nodes-requires-clause-within : goal.push_rows_of_nodes-requires-clause-within
push_rows_of_nodes-requires-clause-within c = c.requires.values.within

pub push_rows_of_nodes-requires-clause-rises : goal.push_rows_of_nodes-requires-clause-rises
push_rows_of_nodes-requires-clause-rises c = subst IsStrictlyIncreasing (sym c.as_slice.ensures.value) c.in_ok-objects.ensures.rises

pub returns : goal.returns
returns c =
    let f = c.args.frame in
    let i = f.input.now in
    let vs = c.args.values.now in
    let os = c.in_ok-objects.objects.items in
    let P = λ (ms : List ℕ) (r : results.ResultRow). (a : ℕ) × Contains vs a × (Says true (Contains ms a) × (r ≡ row_of_node f a)) in
    let Q = IsRowOfForm f (Every (NotObject c.args.predicate.now)) in
    on_ok c.push_rows_of_nodes.result (Gains c.args.rows.now (P c.as_slice.result.now) c.push_rows_of_nodes.new.rows) (Gains c.args.rows.now Q c.push_rows_of_nodes.new.rows) c.push_rows_of_nodes.ensures
    (λ h. gains_iff c.args.rows.now c.push_rows_of_nodes.new.rows (P os) Q
    (common_rows (data_of i) (IsConforming i) IsNoRow (term_of i f.node) (frame_by f) i.graph.nodes (IsValueNode i f.constraint.now.shape f.node) vs c.requires.values c.args.predicate.now os c.in_ok-objects.ensures)
    (subst (λ ms. Gains c.args.rows.now (P ms) c.push_rows_of_nodes.new.rows) c.as_slice.ensures.value h))
