use Rattle.std.proofs.Common.{◌≡◌, refl, length, Some, slice_get, Contains}
use Rattle.std.specs.Prelude.{IsFalse}
use Rattle.std.proofs.lemmas.Option.{slice_get_read}
use Rattle.rdf_terms.specs.Statement.{Statement}
use Rattle.rdf_navigation.specs.Values.{among}
use Rattle.shapes_graph.specs.Results as results
use Rattle.shapes_graph.specs.Results.{row_of_triple}
use Rattle.core_constraints.specs.Findings.{data_of, term_of}
use Rattle.core_constraints.specs.RowLists.{frame_by}
use Rattle.core_constraints.specs.FrameRows.{IsOpenRow}
use Rattle.core_constraints.proofs.RowLaws.{gains_start, gains_next, gains_whole, gains_iff, open_rows}
use Rattle.core_constraints.proofs.constraint_rows.push_open_rows_of_value.Goals as goal

pub triples-init : goal.triples-init
triples-init c = gains_start (λ (t : Statement) (r : results.ResultRow). IsFalse (among c.args.allowed.now t.predicate) × (r ≡ row_of_triple (frame_by c.args.frame) t)) c.triples_of-triple-items.result.now c.args.rows.now

pub triples-preserved : goal.triples-preserved
triples-preserved c =
    let ts = c.triples_of-triple-items.result.now in
    let i = c.triples.triple-index in
    let t = c.triple-item.result in
    let at : slice_get ts i ≡ Some t = slice_get_read ts (length ts) i t refl c.triples-test.true c.triple-item.is in
    gains_next (λ (t : Statement) (r : results.ResultRow). IsFalse (among c.args.allowed.now t.predicate) × (r ≡ row_of_triple (frame_by c.args.frame) t)) ts c.args.rows.now c.triples.rows c.push_row_of_triple.new.rows i t at c.triples.invariant c.in_ok-push_row_of_triple.ensures

pub returns : goal.returns
returns c =
    let i = c.args.frame.input.now in
    let x = term_of i c.args.value in
    let ts = c.triples_of-triple-items.result.now in
    let F = λ (t : Statement) (r : results.ResultRow). IsFalse (among c.args.allowed.now t.predicate) × (r ≡ row_of_triple (frame_by c.args.frame) t) in
    gains_iff c.args.rows.now c.triples.rows (λ r. (t : Statement) × Contains ts t × F t r) (IsOpenRow c.args.frame c.args.allowed.now (λ y. y ≡ x))
    (open_rows (data_of i) x (frame_by c.args.frame) c.args.allowed.now ts c.triples_of-triple-items.ensures) (gains_whole F ts c.args.rows.now c.triples.rows c.triples.triple-index c.triples-test.false c.triples.invariant)
