use Rattle.std.proofs.Common.{◌≡◌, ℕ, true, get_or, Contains}
use Rattle.std.proofs.lemmas.Option.{slice_get-get_or}
use Rattle.shapes_graph.specs.Forms.{Closing}
use Rattle.shapes_graph.specs.Results as results
use Rattle.core_constraints.specs.Findings.{data_of, term_of, IsConforming, IsValueNode}
use Rattle.core_constraints.specs.RowLists.{IsNoRow, frame_by}
use Rattle.core_constraints.specs.FrameRows.{IsOpenRow, IsRowOfForm}
use Rattle.core_constraints.proofs.Decided.{in_at}
use Rattle.core_constraints.proofs.RowLaws.{gains_start, gains_next, gains_whole, gains_iff, closing_rows}
use Rattle.core_constraints.proofs.constraint_rows.push_open_rows.Goals as goal

pub values-init : goal.values-init
values-init c = gains_start (λ a. IsOpenRow c.args.frame c.args.allowed.now (λ y. y ≡ term_of c.args.frame.input.now a)) c.args.values.now c.args.rows.now

pub push_open_rows_of_value-requires-clause-value : goal.push_open_rows_of_value-requires-clause-value
push_open_rows_of_value-requires-clause-value c =
    let vs = c.args.values.now in
    let i = c.values.value-index in
    c.requires.values.within (get_or vs i 0) (in_at vs i (get_or vs i 0) (slice_get-get_or vs i 0 c.values-test.true))

pub values-preserved : goal.values-preserved
values-preserved c =
    let vs = c.args.values.now in
    let i = c.values.value-index in
    gains_next (λ a. IsOpenRow c.args.frame c.args.allowed.now (λ y. y ≡ term_of c.args.frame.input.now a)) vs c.args.rows.now c.values.rows c.push_open_rows_of_value.new.rows i (get_or vs i 0) (slice_get-get_or vs i 0 c.values-test.true) c.values.invariant c.in_ok-push_open_rows_of_value.ensures

pub returns : goal.returns
returns c =
    let i = c.args.frame.input.now in
    let vs = c.args.values.now in
    let F = λ (a : ℕ) (r : results.ResultRow). IsOpenRow c.args.frame c.args.allowed.now (λ y. y ≡ term_of i a) r in
    gains_iff c.args.rows.now c.values.rows (λ r. (a : ℕ) × Contains vs a × F a r) (IsRowOfForm c.args.frame (Closing true c.args.allowed.now))
    (closing_rows (data_of i) (IsConforming i) IsNoRow (term_of i c.args.frame.node) (frame_by c.args.frame) i.graph.nodes (IsValueNode i c.args.frame.constraint.now.shape c.args.frame.node) vs c.requires.values c.args.allowed.now)
    (gains_whole F vs c.args.rows.now c.values.rows c.values.value-index c.values-test.false c.values.invariant)
