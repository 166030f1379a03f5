use Rattle.std.proofs.Common.{◌≡◌, ℕ, not, get_or}
use Rattle.std.specs.Prelude.{IsTrue}
use Rattle.std.proofs.lemmas.Option.{slice_get-get_or}
use Rattle.shapes_graph.specs.Results as results
use Rattle.core_constraints.specs.Findings.{term_of}
use Rattle.core_constraints.specs.Tests.{IsGoodNode}
use Rattle.core_constraints.specs.FrameRows.{row_of_node}
use Rattle.core_constraints.proofs.Decided.{in_at, says_not, is_says}
use Rattle.core_constraints.proofs.RowLaws.{gains_start, gains_next, gains_whole, gains_iff}
use Rattle.core_constraints.proofs.constraint_rows.push_bad_rows.Goals as goal

pub values-init : goal.values-init
values-init c =
    let f = c.args.frame in
    (c.requires.truthful, gains_start (λ (a : ℕ) (r : results.ResultRow). (¬ (IsGoodNode f.input.now f.constraint.now.kind (term_of f.input.now a))) × (r ≡ row_of_node f a)) c.args.values.now c.args.rows.now)

pub is_good-requires-clause-value : goal.is_good-requires-clause-value
is_good-requires-clause-value c =
    let vs = c.args.values.now in
    let i = c.values.value-index in
    c.requires.within (get_or vs i 0) (in_at vs i (get_or vs i 0) (slice_get-get_or vs i 0 c.values-test.true))

pub push_row_of_node-requires-clause-node : goal.push_row_of_node-requires-clause-node
push_row_of_node-requires-clause-node c =
    let vs = c.args.values.now in
    let i = c.values.value-index in
    c.requires.within (get_or vs i 0) (in_at vs i (get_or vs i 0) (slice_get-get_or vs i 0 c.values-test.true))

pub returns-in_err-passes-clause-truthful : goal.returns-in_err-passes-clause-truthful
returns-in_err-passes-clause-truthful c = c.is_good.ensures.truthful

pub returns-in_err-push_row_of_node-clause-truthful : goal.returns-in_err-push_row_of_node-clause-truthful
returns-in_err-push_row_of_node-clause-truthful c = c.is_good.ensures.truthful

pub values-preserved : goal.values-preserved
values-preserved c =
    let f = c.args.frame in
    let vs = c.args.values.now in
    let i = c.values.value-index in
    let a = get_or vs i 0 in
    let b = c.in_ok-passes.passes in
    let G = IsGoodNode f.input.now f.constraint.now.kind (term_of f.input.now a) in
    let F = λ (a : ℕ) (r : results.ResultRow). (¬ (IsGoodNode f.input.now f.constraint.now.kind (term_of f.input.now a))) × (r ≡ row_of_node f a) in
    let e = is_says (not b) (¬ G) (says_not b G c.in_ok-passes.ensures.says) in (
      c.is_good.ensures.truthful,
      gains_next F vs c.args.rows.now c.values.rows c.push_row_of_node.new.rows i a (slice_get-get_or vs i 0 c.values-test.true) c.values.invariant.1
          (gains_iff c.values.rows c.push_row_of_node.new.rows (λ r. IsTrue (not b) × (r ≡ row_of_node f a)) (F a) (λ r. (λ w. (e.0 w.0, w.1), λ w. (e.1 w.0, w.1))) c.in_ok-push_row_of_node.ensures),
    )

pub returns-clause-rows : goal.returns-clause-rows
returns-clause-rows c =
    let f = c.args.frame in
    gains_whole (λ (a : ℕ) (r : results.ResultRow). (¬ (IsGoodNode f.input.now f.constraint.now.kind (term_of f.input.now a))) × (r ≡ row_of_node f a)) c.args.values.now c.args.rows.now c.values.rows c.values.value-index c.values-test.false c.values.invariant.1

pub returns-clause-truthful : goal.returns-clause-truthful
returns-clause-truthful c = c.values.invariant.0
