use Rattle.std.proofs.Common.{◌≡◌, ◌≤◌, ◌^◌}
use Rattle.report_writer.specs.Report.{report_node}
use Rattle.report_writer.proofs.Reports.{report_before}
use Rattle.report_writer.proofs.writing.report_bytes.Given as goal

abbrev pub invariant-rows : goal.invariant-rows
invariant-rows l = record {
  text : l.out ≡ report_before l.rows l.number;
  fits : l.number ≤ 2 ^ 64;
  report : l.report ≡ report_node;
}
