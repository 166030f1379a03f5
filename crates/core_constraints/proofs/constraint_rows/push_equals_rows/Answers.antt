use Rattle.std.proofs.Common.{◌≡◌, ◌⊎◌, ℕ, List, false, Contains, sym, subst}
use Rattle.std.specs.List.Sorted.{IsStrictlyIncreasing}
use Rattle.shapes_graph.specs.Forms.{Same}
use Rattle.shapes_graph.specs.Results as results
use Rattle.path_eval.specs.Numbered.{AreNumbers}
use Rattle.path_eval.proofs.GrowthLaws.{on_ok}
use Rattle.core_constraints.specs.Decisions.{Says}
use Rattle.core_constraints.specs.Findings.{data_of, term_of, IsConforming, IsValueNode}
use Rattle.core_constraints.specs.RowLists.{Gains}
use Rattle.core_constraints.specs.RowLists.{IsNoRow, frame_by}
use Rattle.core_constraints.specs.FrameRows.{row_of_node, IsRowOfForm}
use Rattle.core_constraints.proofs.RowLaws.{gains_then, gains_iff, alone_rows}
use Rattle.core_constraints.proofs.constraint_rows.push_equals_rows.Goals as goal

pub objects_of-requires : goal.objects_of-requires
objects_of-requires c = c.requires.frame.node

pub push_rows_of_nodes-requires-clause-within : goal.push_rows_of_nodes-requires-clause-within
push_rows_of_nodes-requires-clause-within c = c.requires.values.within

pub push_rows_of_nodes-requires-clause-rises : goal.push_rows_of_nodes-requires-clause-rises
push_rows_of_nodes-requires-clause-rises c = subst IsStrictlyIncreasing (sym c.as_slice.ensures.value) c.in_ok-objects.ensures.rises

pub push_rows_of_nodes-requires-2-clause-within : goal.push_rows_of_nodes-requires-2-clause-within
push_rows_of_nodes-requires-2-clause-within c = subst (AreNumbers c.args.frame.input.now.graph.nodes) (sym c.as_slice-2.ensures.value) c.in_ok-objects.ensures.within

pub push_rows_of_nodes-requires-2-clause-rises : goal.push_rows_of_nodes-requires-2-clause-rises
push_rows_of_nodes-requires-2-clause-rises c = c.requires.values.rises

pub returns : goal.returns
returns c =
    let f = c.args.frame in
    let i = f.input.now in
    let x = term_of i f.node in
    let vs = c.args.values.now in
    let os = c.in_ok-objects.objects.items in
    let P = λ (ns : List ℕ) (ms : List ℕ) (r : results.ResultRow). (a : ℕ) × Contains ns a × (Says false (Contains ms a) × (r ≡ row_of_node f a)) in
    let first = subst (λ ms. Gains c.args.rows.now (P vs ms) c.push_rows_of_nodes.new.rows) c.as_slice.ensures.value c.in_ok-push_rows_of_nodes.ensures in
    on_ok c.push_rows_of_nodes-2.result (Gains c.push_rows_of_nodes.new.rows (P c.as_slice-2.result.now vs) c.push_rows_of_nodes-2.new.rows) (Gains c.args.rows.now (IsRowOfForm f (Same c.args.predicate.now)) c.push_rows_of_nodes-2.new.rows) c.push_rows_of_nodes-2.ensures
    (λ h. gains_iff c.args.rows.now c.push_rows_of_nodes-2.new.rows (λ r. P vs os r ⊎ P os vs r) (IsRowOfForm f (Same c.args.predicate.now))
    (alone_rows (data_of i) (IsConforming i) IsNoRow x (frame_by f) i.graph.nodes (IsValueNode i f.constraint.now.shape f.node) vs c.requires.values c.args.predicate.now os c.in_ok-objects.ensures)
    (gains_then c.args.rows.now c.push_rows_of_nodes.new.rows c.push_rows_of_nodes-2.new.rows (P vs os) (P os vs) first
    (subst (λ ns. Gains c.push_rows_of_nodes.new.rows (P ns vs) c.push_rows_of_nodes-2.new.rows) c.as_slice-2.ensures.value h)))
