use Rattle.std.proofs.Common.{ap, ◌∙◌}
use Rattle.std.proofs.lemmas.Result.{err_from_is_err_and}
use Rattle.explain_cli.specs.declared.status.Status.{Status}
use Rattle.explain_cli.specs.Reports.{answer}
use Rattle.explain_cli.proofs.Explained.{claimed_candidates, explanation_report_of}
use Rattle.explain_cli.proofs.explain.report_explanation.Goals as goal

pub document_bytes-requires : goal.document_bytes-requires
document_bytes-requires c = claimed_candidates c.in_ok-problem.problem c.args.conflicts c.in_ok-proof.proof c.in_ok-proof.ensures

pub returns : goal.returns
returns c =
    explanation_report_of c.args.shapes c.args.present c.args.offered c.in_ok-shapes.shapes c.in_ok-problem.problem c.args.conflicts c.in_ok-proof.proof c.in_ok-out.out c.answer.result
    c.in_ok-shapes.ensures.shapes c.in_ok-shapes.ensures.comparable c.in_ok-problem.ensures.shapes c.in_ok-problem.ensures.present c.in_ok-problem.ensures.offers
    c.in_ok-proof.ensures c.in_ok-out.ensures.text c.in_ok-out.ensures.read_back (c.answer.ensures ∙ ap (λ (s : Status). answer s c.in_ok-out.out) c.status_of.ensures)

pub returns-in_err-out : goal.returns-in_err-out
returns-in_err-out c =
    let error = err_from_is_err_and c.from_residual-in_err-out.result c.from_residual-in_err-out.ensures.1 in
    rw (error.1, error.2) tt
