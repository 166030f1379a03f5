use Rattle.std.proofs.Common.{sym, subst}
use Rattle.repair_problem.specs.Changes.{AreCandidates}
use Rattle.certificates.proofs.Answered.{no_test, pair_judged_ok, pair_judged_err}
use Rattle.certificates.proofs.checker.judge_pair.Goals as goal

pub returns-then-not-are_candidates-clause-err : goal.returns-then-not-are_candidates-clause-err
returns-then-not-are_candidates-clause-err c = λ own. no_test c.are_candidates.result (c.are_candidates.ensures.1 (subst (AreCandidates c.args.problem.now) (sym c.as_slice-numbers.ensures) own)) c.if-not-are_candidates.true

pub pair_tests-requires : goal.pair_tests-requires
pair_tests-requires c = subst (AreCandidates c.args.problem.now) c.as_slice-numbers.ensures (c.are_candidates.ensures.0 c.if-not-are_candidates.false)

pub returns-in-Ok-clause-ok : goal.returns-in-Ok-clause-ok
returns-in-Ok-clause-ok c =
    pair_judged_ok c.args.problem.now c.args.chain.now c.args.pair.now c.in-Ok.tests.0 c.in-Ok.tests.1 c.pair_result.result (subst (AreCandidates c.args.problem.now) c.as_slice-numbers.ensures (c.are_candidates.ensures.0 c.if-not-are_candidates.false))
    c.in-Ok.ensures.below c.in-Ok.ensures.conforms c.pair_result.ensures

pub returns-in-Ok-clause-err : goal.returns-in-Ok-clause-err
returns-in-Ok-clause-err c =
    pair_judged_err c.args.problem.now c.args.chain.now c.args.pair.now c.in-Ok.tests.0 c.in-Ok.tests.1 c.pair_result.result (subst (AreCandidates c.args.problem.now) c.as_slice-numbers.ensures (c.are_candidates.ensures.0 c.if-not-are_candidates.false))
    c.in-Ok.ensures.below c.in-Ok.ensures.conforms c.pair_result.ensures
