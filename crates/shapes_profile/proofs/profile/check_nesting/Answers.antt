use Rattle.std.proofs.lemmas.Result.{err_from_is_err_and}
use Rattle.shapes_profile.proofs.ProfileLaws.{nested_1, nested_2, nested_3}
use Rattle.shapes_profile.proofs.profile.check_nesting.Goals as goal

pub returns-in_err-check_recursion-clause-verdict : goal.returns-in_err-check_recursion-clause-verdict
returns-in_err-check_recursion-clause-verdict c =
    let p = err_from_is_err_and c.from_residual-in_err-check_recursion.result c.from_residual-in_err-check_recursion.ensures.1 in
    rw (p.1, p.2) (nested_1 c.args.shapes.now c.in_err-check_recursion.field-0.0 c.in_err-check_recursion.ensures)

pub returns-in_err-nodes-clause-verdict : goal.returns-in_err-nodes-clause-verdict
returns-in_err-nodes-clause-verdict c =
    let p = err_from_is_err_and c.from_residual-in_err-nodes.result c.from_residual-in_err-nodes.ensures.1 in
    rw (p.1, p.2) (nested_2 c.args.shapes.now c.in_err-nodes.field-0.0 c.in_ok-check_recursion.ensures c.in_err-nodes.ensures.verdict)

pub returns-in_err-check_ranks-clause-verdict : goal.returns-in_err-check_ranks-clause-verdict
returns-in_err-check_ranks-clause-verdict c =
    let p = err_from_is_err_and c.from_residual-in_err-check_ranks.result c.from_residual-in_err-check_ranks.ensures.1 in
    rw (p.1, p.2)
    (nested_3 c.args.shapes.now c.in_err-check_ranks.field-0.0 c.in_ok-check_recursion.ensures c.in_ok-nodes.ensures.verdict c.in_err-check_ranks.ensures)

pub returns-clause-verdict : goal.returns-clause-verdict
returns-clause-verdict c = (c.in_ok-check_recursion.ensures, c.in_ok-nodes.ensures.verdict, c.in_ok-check_ranks.ensures)
