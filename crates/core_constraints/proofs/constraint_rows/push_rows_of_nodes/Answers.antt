use Rattle.std.proofs.Common.{◌≡◌, ℕ, get_or, Contains}
use Rattle.std.specs.Prelude.{IsTrue}
use mathlib.Core.Bool.{beq}
use Rattle.std.proofs.lemmas.Option.{slice_get-get_or}
use Rattle.shapes_graph.specs.Results as results
use Rattle.core_constraints.specs.Decisions.{Says}
use Rattle.core_constraints.specs.FrameRows.{row_of_node}
use Rattle.core_constraints.proofs.Decided.{in_at}
use Rattle.core_constraints.proofs.RowLaws.{gains_start, gains_next, gains_whole, gains_iff, same_answer}
use Rattle.core_constraints.proofs.constraint_rows.push_rows_of_nodes.Goals as goal

pub nodes-init : goal.nodes-init
nodes-init c = gains_start (λ (a : ℕ) (r : results.ResultRow). Says c.args.among (Contains c.args.others.now a) × (r ≡ row_of_node c.args.frame a)) c.args.nodes.now c.args.rows.now

pub push_row_of_node-requires-clause-node : goal.push_row_of_node-requires-clause-node
push_row_of_node-requires-clause-node c =
    let ns = c.args.nodes.now in
    let i = c.nodes.node-index in
    c.requires.within (get_or ns i 0) (in_at ns i (get_or ns i 0) (slice_get-get_or ns i 0 c.nodes-test.true))

pub nodes-preserved : goal.nodes-preserved
nodes-preserved c =
    let ns = c.args.nodes.now in
    let i = c.nodes.node-index in
    let a = get_or ns i 0 in
    let F = λ (a : ℕ) (r : results.ResultRow). Says c.args.among (Contains c.args.others.now a) × (r ≡ row_of_node c.args.frame a) in
    let e = same_answer c.contains.result c.args.among (Contains c.args.others.now a) c.contains.ensures in
    gains_next F ns c.args.rows.now c.nodes.rows c.push_row_of_node.new.rows i a (slice_get-get_or ns i 0 c.nodes-test.true) c.nodes.invariant
    (gains_iff c.nodes.rows c.push_row_of_node.new.rows (λ r. IsTrue (beq c.contains.result c.args.among) × (r ≡ row_of_node c.args.frame a)) (F a) (λ r. (λ w. (e.0 w.0, w.1), λ w. (e.1 w.0, w.1))) c.in_ok-push_row_of_node.ensures)

pub returns : goal.returns
returns c = gains_whole (λ (a : ℕ) (r : results.ResultRow). Says c.args.among (Contains c.args.others.now a) × (r ≡ row_of_node c.args.frame a)) c.args.nodes.now c.args.rows.now c.nodes.rows c.nodes.node-index c.nodes-test.false c.nodes.invariant
