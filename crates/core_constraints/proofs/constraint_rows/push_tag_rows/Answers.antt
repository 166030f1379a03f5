use Rattle.std.proofs.Common.{◌≡◌, ◌↔◌, ◌≤◌, ℕ, true, List, Some, None, map, length, Contains, refl, sym, ap, ◌∙◌, subst, Bor, slice_get}
use Rattle.std.specs.Prelude.{option_map}
use Rattle.std.proofs.lemmas.List.{length-map}
use Rattle.std.proofs.lemmas.Option.{slice_get_read, slice_get-map}
use Rattle.rdf_terms.specs.declared.term.Term.{Term}
use Rattle.rdf_terms.specs.declared.text.Text.{Text}
use Rattle.shapes_graph.specs.Forms.{Unique}
use Rattle.shapes_graph.specs.Conformance.{AreTwins}
use Rattle.shapes_graph.specs.Results as results
use Rattle.shapes_graph.specs.Results.{row}
use Rattle.path_eval.specs.Numbered.{terms_at}
use Rattle.core_constraints.specs.Findings.{data_of, term_of, IsConforming, IsValueNode}
use Rattle.core_constraints.specs.RowLists.{IsNoRow, frame_by}
use Rattle.core_constraints.specs.FrameRows.{IsRowOfForm}
use Rattle.core_constraints.proofs.RowLaws.{gains_start, gains_next, gains_whole, gains_iff, gains_push, tag_rows}
use Rattle.core_constraints.proofs.constraint_rows.push_tag_rows.Goals as goal

pub repeated_tags-requires-clause-within : goal.repeated_tags-requires-clause-within
repeated_tags-requires-clause-within c = c.requires.values.within

pub repeated_tags-requires-clause-rises : goal.repeated_tags-requires-clause-rises
repeated_tags-requires-clause-rises c = c.requires.values.rises

pub tags-init : goal.tags-init
tags-init c = gains_start (λ (tag : List ℕ) (r : results.ResultRow). r ≡ row (frame_by c.args.frame) None (Some tag)) (map (λ (t : Bor Text). t.now) c.as_slice-tag-items.result.now) c.args.rows.now

pub tags-preserved : goal.tags-preserved
tags-preserved c =
    let F = λ (tag : List ℕ) (r : results.ResultRow). r ≡ row (frame_by c.args.frame) None (Some tag) in
    let items = c.as_slice-tag-items.result.now in
    let i = c.tags.tag-index in
    let t = c.tag-item.result in
    let h = c.in_ok-row_of_tag.ensures in
    let at : slice_get items i ≡ Some t = slice_get_read items (length items) i t refl c.tags-test.true c.tag-item.is in
    gains_next F (map (λ (t : Bor Text). t.now) items) c.args.rows.now c.tags.rows c.push.new.self i t.now (slice_get-map (λ (t : Bor Text). t.now) items i ∙ ap (option_map (λ (t : Bor Text). t.now)) at) c.tags.invariant
    (gains_push c.tags.rows c.push.new.self c.in_ok-row_of_tag.field-0 (F t.now) c.in_ok-push.ensures.ok h (λ r e. h ∙ sym e))

pub returns : goal.returns
returns c =
    let f = c.args.frame in
    let i = f.input.now in
    let vs = c.args.values.now in
    let F = λ (tag : List ℕ) (r : results.ResultRow). r ≡ row (frame_by f) None (Some tag) in
    let items = c.as_slice-tag-items.result.now in
    let tags = map (λ (t : Bor Text). t.now) items in
    let is = subst (λ (ts : List (Bor Text)). (tag : List ℕ) → Contains (map (λ (t : Bor Text). t.now) ts) tag ↔ ((y : Term) × (z : Term) × AreTwins (Contains (terms_at i.graph.nodes vs)) y z tag)) (sym c.as_slice-tag-items.ensures.value) c.in_ok-tags.ensures in
    gains_iff c.args.rows.now c.tags.rows (λ r. (tag : List ℕ) × Contains tags tag × F tag r) (IsRowOfForm f (Unique true))
    (tag_rows (data_of i) (IsConforming i) IsNoRow (term_of i f.node) (frame_by f) i.graph.nodes (IsValueNode i f.constraint.now.shape f.node) vs c.requires.values tags is)
    (gains_whole F tags c.args.rows.now c.tags.rows c.tags.tag-index (subst (λ n. n ≤ c.tags.tag-index) (sym (length-map items (λ (t : Bor Text). t.now))) c.tags-test.false) c.tags.invariant)
