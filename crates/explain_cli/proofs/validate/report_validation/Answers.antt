use Rattle.explain_cli.proofs.Answers.{validation_of}
use Rattle.explain_cli.proofs.validate.report_validation.Goals as goal

pub returns : goal.returns
returns c =
    validation_of c.args.shapes c.in_ok-shapes.shapes c.args.present.now c.new-offered.result c.in_ok-rows.rows c.in_ok-rows_report.field-0 c.in_ok-shapes.ensures.shapes c.new-offered.ensures c.in_ok-shapes.ensures.comparable
    c.in_ok-rows.ensures.exact c.in_ok-rows.ensures.sorted c.in_ok-rows.ensures.some c.in_ok-rows_report.ensures
