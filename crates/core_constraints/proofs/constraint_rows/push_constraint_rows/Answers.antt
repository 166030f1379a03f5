use Rattle.std.proofs.Common.{◌≡◌, ◌↔◌, ℕ, true, Contains, Some, None, sym, ◌∙◌, ap, subst}
use Rattle.std.specs.Prelude.{IsTrue, OnOk}
use Rattle.rdf_navigation.specs.Numbers.{term_at}
use Rattle.shapes_graph.specs.Forms.{Closing, Unique, Every, Same, NotObject, form_of}
use Rattle.shapes_graph.specs.Conformance.{IsGood}
use Rattle.shapes_graph.specs.Results as results
use Rattle.shapes_graph.specs.Results.{IsRowBy, row}
use Rattle.path_eval.proofs.GrowthLaws.{on_ok}
use Rattle.core_constraints.specs.Findings.{shapes_of, data_of, term_of, IsConforming, IsValueNode}
use Rattle.core_constraints.specs.RowLists.{Gains, frame_for}
use Rattle.core_constraints.specs.RowLists.{IsNoRow, IsOwnRowBy}
use Rattle.core_constraints.specs.Tests.{test_in, asks_nodes, IsGoodNode}
use Rattle.core_constraints.proofs.Decided.{no_false}
use Rattle.core_constraints.proofs.Tested.{IsOfBadNodes, asks_every}
use Rattle.core_constraints.proofs.RowLaws.{gains_none, gains_iff, every_rows}
use Rattle.core_constraints.proofs.constraint_rows.push_constraint_rows.Goals as goal

pub push_one_row-requires-clause-frame : goal.push_one_row-requires-clause-frame
push_one_row-requires-clause-frame c = record { shape = c.requires.stated.owner; node = c.requires.node }

pub push_open_rows-requires-clause-frame : goal.push_open_rows-requires-clause-frame
push_open_rows-requires-clause-frame c = record { shape = c.requires.stated.owner; node = c.requires.node }

pub push_tag_rows-requires-clause-frame : goal.push_tag_rows-requires-clause-frame
push_tag_rows-requires-clause-frame c = record { shape = c.requires.stated.owner; node = c.requires.node }

pub push_equals_rows-requires-clause-frame : goal.push_equals_rows-requires-clause-frame
push_equals_rows-requires-clause-frame c = record { shape = c.requires.stated.owner; node = c.requires.node }

pub push_common_rows-requires-clause-frame : goal.push_common_rows-requires-clause-frame
push_common_rows-requires-clause-frame c = record { shape = c.requires.stated.owner; node = c.requires.node }

pub push_bad_rows-requires-clause-frame : goal.push_bad_rows-requires-clause-frame
push_bad_rows-requires-clause-frame c = record { shape = c.requires.stated.owner; node = c.requires.node }

pub push_bad_rows-requires-clause-alone : goal.push_bad_rows-requires-clause-alone
push_bad_rows-requires-clause-alone c =
    let k = c.args.constraint.now.kind in
    let d : IsOfBadNodes k = record { not_one = sym c.has_one_row.ensures ∙ c.if-has_one_row.false; not_property = c.in_default.not-Property; not_closed = c.in_default.not-Closed; not_unique = c.in_default.not-UniqueLang; not_equals = c.in_default.not-Equals; not_disjoint = c.in_default.not-Disjoint } in
    let e = asks_every k d in
    subst (λ f. IsTrue (asks_nodes (test_in f))) (sym e.1) e.2

pub returns-in-Property-clause-rows : goal.returns-in-Property-clause-rows
returns-in-Property-clause-rows c =
    let i = c.args.input.now in
    let k = c.args.constraint.now in
    let x = term_of i c.args.node in
    gains_none c.args.rows.now (IsOwnRowBy i (IsValueNode i k.shape c.args.node) x (frame_for (shapes_of i) k x) (form_of k.kind))
    (λ r w. (subst (λ k'. IsOwnRowBy i (IsValueNode i k.shape c.args.node) x (frame_for (shapes_of i) k x) (form_of k') r) c.in-Property.is w).2)

pub returns-then-on-clause-rows : goal.returns-then-on-clause-rows
returns-then-on-clause-rows c =
    let i = c.args.input.now in
    let k = c.args.constraint.now in
    let x = term_of i c.args.node in
    let e : form_of k.kind ≡ Closing true c.as_slice.result.now = ap form_of c.in-Closed.is ∙ ap (λ b. Closing b c.in-Closed.allowed) c.if-on.true ∙ ap (Closing true) (sym c.as_slice.ensures) in
    subst (λ form. OnOk c.push_open_rows.result (Gains c.args.rows.now (IsOwnRowBy i (IsValueNode i k.shape c.args.node) x (frame_for (shapes_of i) k x) form) c.push_open_rows.new.rows)) (sym e) c.push_open_rows.ensures

pub returns-else-on-clause-rows : goal.returns-else-on-clause-rows
returns-else-on-clause-rows c =
    let i = c.args.input.now in
    let k = c.args.constraint.now in
    let x = term_of i c.args.node in
    gains_none c.args.rows.now (IsOwnRowBy i (IsValueNode i k.shape c.args.node) x (frame_for (shapes_of i) k x) (form_of k.kind))
    (λ r w. no_false c.in-Closed.on (subst (λ k'. IsOwnRowBy i (IsValueNode i k.shape c.args.node) x (frame_for (shapes_of i) k x) (form_of k') r) c.in-Closed.is w).0 c.if-on.false)

pub returns-then-on-2-clause-rows : goal.returns-then-on-2-clause-rows
returns-then-on-2-clause-rows c =
    let i = c.args.input.now in
    let k = c.args.constraint.now in
    let x = term_of i c.args.node in
    let e : form_of k.kind ≡ Unique true = ap form_of c.in-UniqueLang.is ∙ ap Unique c.if-on-2.true in
    subst (λ form. OnOk c.push_tag_rows.result (Gains c.args.rows.now (IsOwnRowBy i (IsValueNode i k.shape c.args.node) x (frame_for (shapes_of i) k x) form) c.push_tag_rows.new.rows)) (sym e) c.push_tag_rows.ensures

pub returns-else-on-2-clause-rows : goal.returns-else-on-2-clause-rows
returns-else-on-2-clause-rows c =
    let i = c.args.input.now in
    let k = c.args.constraint.now in
    let x = term_of i c.args.node in
    gains_none c.args.rows.now (IsOwnRowBy i (IsValueNode i k.shape c.args.node) x (frame_for (shapes_of i) k x) (form_of k.kind))
    (λ r w. no_false c.in-UniqueLang.on (subst (λ k'. IsOwnRowBy i (IsValueNode i k.shape c.args.node) x (frame_for (shapes_of i) k x) (form_of k') r) c.in-UniqueLang.is w).0 c.if-on-2.false)

pub returns-in-Equals-clause-rows : goal.returns-in-Equals-clause-rows
returns-in-Equals-clause-rows c =
    let i = c.args.input.now in
    let k = c.args.constraint.now in
    let x = term_of i c.args.node in
    let e : form_of k.kind ≡ Same c.as_str.result.now = ap form_of c.in-Equals.is ∙ ap Same (sym c.as_str.ensures) in
    subst (λ form. OnOk c.push_equals_rows.result (Gains c.args.rows.now (IsOwnRowBy i (IsValueNode i k.shape c.args.node) x (frame_for (shapes_of i) k x) form) c.push_equals_rows.new.rows)) (sym e) c.push_equals_rows.ensures

pub returns-in-Disjoint-clause-rows : goal.returns-in-Disjoint-clause-rows
returns-in-Disjoint-clause-rows c =
    let i = c.args.input.now in
    let k = c.args.constraint.now in
    let x = term_of i c.args.node in
    let e : form_of k.kind ≡ Every (NotObject c.as_str-in-Disjoint.result.now) = ap form_of c.in-Disjoint.is ∙ ap (λ q. Every (NotObject q)) (sym c.as_str-in-Disjoint.ensures) in
    subst (λ form. OnOk c.push_common_rows.result (Gains c.args.rows.now (IsOwnRowBy i (IsValueNode i k.shape c.args.node) x (frame_for (shapes_of i) k x) form) c.push_common_rows.new.rows)) (sym e) c.push_common_rows.ensures

pub returns-in_default : goal.returns-in_default
returns-in_default c =
    let i = c.args.input.now in
    let g = data_of i in
    let C = IsConforming i in
    let n = i.graph.nodes in
    let k = c.args.constraint.now.kind in
    let x = term_of i c.args.node in
    let f = frame_for (shapes_of i) c.args.constraint.now x in
    let V = IsValueNode i c.args.constraint.now.shape c.args.node in
    let vs = c.args.values.now in
    let d : IsOfBadNodes k = record { not_one = sym c.has_one_row.ensures ∙ c.if-has_one_row.false; not_property = c.in_default.not-Property; not_closed = c.in_default.not-Closed; not_unique = c.in_default.not-UniqueLang; not_equals = c.in_default.not-Equals; not_disjoint = c.in_default.not-Disjoint } in
    let e = asks_every k d in
    let P = λ (r : results.ResultRow). (a : ℕ) × Contains vs a × ((¬ (IsGoodNode i k (term_of i a))) × (r ≡ row f (Some (term_of i a)) None)) in
    let Q = IsOwnRowBy i V x f (form_of k) in
    let same_rows = λ (r : results.ResultRow). subst (λ form. ((a : ℕ) × Contains vs a × ((¬ (IsGood g C (term_at n a) (test_in form) (term_at n a))) × (r ≡ row f (Some (term_at n a)) None))) ↔ IsRowBy g C IsNoRow V x f form r) (sym e.1) (every_rows g C IsNoRow x f n V vs c.requires.values e.0 e.2 r) in
    record {
      rows = on_ok c.push_bad_rows.result (Gains c.args.rows.now P c.push_bad_rows.new.rows) (Gains c.args.rows.now Q c.push_bad_rows.new.rows) c.push_bad_rows.ensures.rows (λ h. gains_iff c.args.rows.now c.push_bad_rows.new.rows P Q same_rows h);
      truthful = c.push_bad_rows.ensures.truthful;
    }
