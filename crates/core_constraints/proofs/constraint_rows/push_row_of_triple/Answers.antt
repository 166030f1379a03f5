use Rattle.std.proofs.Common.{◌≡◌, ap, sym, ◌∙◌}
use Rattle.std.specs.Prelude.{IsFalse}
use Rattle.rdf_terms.specs.Statement.{Statement}
use Rattle.rdf_navigation.specs.Values.{among}
use Rattle.shapes_graph.specs.Results.{row_of_triple}
use Rattle.core_constraints.specs.RowLists.{frame_by}
use Rattle.core_constraints.proofs.Decided.{no_false}
use Rattle.core_constraints.proofs.RowLaws.{gains_none, gains_pushed}
use Rattle.core_constraints.proofs.constraint_rows.push_row_of_triple.Goals as goal

pub returns-then-is_among : goal.returns-then-is_among
returns-then-is_among c =
    let ts = c.args.allowed.now in
    let t = c.args.triple.now in
    let e : c.is_among.result ≡ among ts t.predicate = c.is_among.ensures ∙ ap (λ (u : Statement). among ts u.predicate) c.triple.view_is in
    gains_none c.args.rows.now (λ r. IsFalse (among ts t.predicate) × (r ≡ row_of_triple (frame_by c.args.frame) t)) (λ r h. no_false (among ts t.predicate) (sym e ∙ c.if-is_among.true) h.0)

pub returns : goal.returns
returns c =
    let ts = c.args.allowed.now in
    let t = c.args.triple.now in
    let e : c.is_among.result ≡ among ts t.predicate = c.is_among.ensures ∙ ap (λ (u : Statement). among ts u.predicate) c.triple.view_is in
    gains_pushed c.push.result c.args.rows.now c.push.new.self c.in_ok-row_of_triple.field-0 (λ r. IsFalse (among ts t.predicate) × (r ≡ row_of_triple (frame_by c.args.frame) t)) c.push.ensures.ok
    (sym e ∙ c.if-is_among.false, c.in_ok-row_of_triple.ensures) (λ r h. c.in_ok-row_of_triple.ensures ∙ sym h.1)
