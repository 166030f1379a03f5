use Rattle.explain_cli.proofs.Answers.{check_report_of}
use Rattle.explain_cli.proofs.check.report_verdict.Goals as goal

pub returns : goal.returns
returns c =
    check_report_of c.args.shapes c.args.present c.args.offered c.in_ok-shapes.shapes c.in_ok-problem.problem c.args.text.now c.check_document-verdict.result c.in_ok-verdict_report.field-0
    c.in_ok-shapes.ensures.shapes c.in_ok-shapes.ensures.comparable c.in_ok-problem.ensures.shapes c.in_ok-problem.ensures.present c.in_ok-problem.ensures.offers
    c.check_document-verdict.ensures.verdict c.check_document-verdict.ensures.shown c.check_document-verdict.ensures.not_accepted c.in_ok-verdict_report.ensures
