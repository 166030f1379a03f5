use Rattle.std.proofs.Common.{◌≡◌, ◌==◌, ◌++◌, ℕ, ◌<◌, ◌≤◌, get_or, flat_map, length, List, sym, ap, ◌∙◌, subst, arith}
use Rattle.rdf_terms.specs.declared.term.Scope.TheVariants.{Data}
use Rattle.ntriples_io.specs.CanonicalText.{line_text}
use Rattle.ntriples_io.specs.Text.{NtText}
use Rattle.core_constraints.specs.declared.result_rows.ResultRow.{ResultRow}
use Rattle.report_writer.specs.Report.{result_triples, report_graph}
use Rattle.report_writer.proofs.Reports.{text_more, text_start, text_end, report_read}
use Rattle.report_writer.proofs.writing.report_bytes.Goals as goal

pub rows-init : goal.rows-init
rows-init c = record {
  text = text_start c.args.rows.now c.is_empty.result c.new-out.result c.push_head.new.out (c.is_empty.ensures ∙ ap (λ (rs : List ResultRow). length rs == 0) c.as_slice.ensures) c.new-out.ensures c.in_ok-push_head.ensures;
  fits = omega arith;
  report = c.in_ok-report.ensures;
}

pub rows-preserved : goal.rows-preserved
rows-preserved c =
    let rows = c.args.rows.now in
    let i = c.rows.number in
    let r = c.row-item.result in
    let within = subst (λ (rs : List ResultRow). i < length rs) c.as_slice-row-items.ensures c.rows-test.true in
    let item = subst (λ (rs : List ResultRow). r ≡ get_or rs i r) c.as_slice-row-items.ensures c.row-item.is in
    let fits = c.in_ok-push_result.ensures.fits in
    record {
      text = c.in_ok-push_result.ensures.text ∙ (ap (λ (bs : List ℕ). bs ++ flat_map line_text (result_triples i r)) c.rows.invariant.text ∙ text_more rows i r within item);
      fits = omega (arith, fits);
      report = c.rows.invariant.report;
    }

pub returns-clause-text : goal.returns-clause-text
returns-clause-text c =
    c.rows.invariant.text ∙ text_end c.args.rows.now c.rows.number (subst (λ (rs : List ResultRow). length rs ≤ c.rows.number) c.as_slice-row-items.ensures c.rows-test.false)

pub returns-clause-read_back : goal.returns-clause-read_back
returns-clause-read_back c = λ lawful.
    let rows = c.args.rows.now in
    let past = subst (λ (rs : List ResultRow). length rs ≤ c.rows.number) c.as_slice-row-items.ensures c.rows-test.false in
    let fits = c.rows.invariant.fits in
    subst (λ (bs : List ℕ). NtText bs Data (report_graph rows)) (sym (c.rows.invariant.text ∙ text_end rows c.rows.number past)) (report_read rows (omega (arith, past, fits)) lawful)

pub push_result-requires : goal.push_result-requires
push_result-requires c = c.rows.invariant.report
