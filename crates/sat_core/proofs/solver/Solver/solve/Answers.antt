use Rattle.std.proofs.Common.{ap, ◌∙◌, ◌+◌, length}
use Rattle.sat_core.proofs.Whole.{extends_further, extends_same, extends_one, full_same, full_one, refuted_one, further_one, further_part, further_same, log_one}
use Rattle.sat_core.proofs.solver.Solver.solve.Goals as goal

pub returns-in-None-clause-extends : goal.returns-in-None-clause-extends
returns-in-None-clause-extends g c = extends_same _ _ _ c.loop-step.invariant.extends c.search.ensures.same

pub returns-then-branch-clause-extends : goal.returns-then-branch-clause-extends
returns-then-branch-clause-extends g c = extends_one _ _ _ _ (extends_same _ _ _ c.loop-step.invariant.extends c.search.ensures.same) c.in_ok-learn_from-in-Some.ensures.one

pub returns-then-branch-clause-ends : goal.returns-then-branch-clause-ends
returns-then-branch-clause-ends g c = refuted_one _ _ _ c.in_ok-learn_from-in-Some.ensures.one c.if-branch.true

pub loop-step-preserved : goal.loop-step-preserved
loop-step-preserved g c =
    let one = c.in_ok-learn_from-in-Some.ensures.one in
    let same = c.search.ensures.same in
    record {
      extends = extends_one _ _ _ _ (extends_same _ _ _ c.loop-step.invariant.extends same) one;
      full = full_one _ _ _ one c.if-branch.false (full_same _ _ same c.loop-step.invariant.full);
      logged = log_one _ _ _ one ∙ ap (λ n. n + 1) (ap length same.log ∙ c.loop-step.invariant.logged);
    }

pub returns-in-None-2-clause-extends : goal.returns-in-None-2-clause-extends
returns-in-None-2-clause-extends g c = extends_same _ _ _ c.loop-step.invariant.extends c.search-2.ensures.same

pub returns-in-Some-2-clause-extends : goal.returns-in-Some-2-clause-extends
returns-in-Some-2-clause-extends g c = extends_same _ _ _ c.loop-step.invariant.extends c.search-2.ensures.same

pub returns-in_err-search-clause-further : goal.returns-in_err-search-clause-further
returns-in_err-search-clause-further g c = further_same _ _ _ (extends_further _ _ c.loop-step.invariant.extends) c.search.ensures.same

pub returns-in-None-clause-further : goal.returns-in-None-clause-further
returns-in-None-clause-further g c = further_same _ _ _ (extends_further _ _ c.loop-step.invariant.extends) c.search.ensures.same

pub returns-in_err-learn_from-in-Some-clause-further : goal.returns-in_err-learn_from-in-Some-clause-further
returns-in_err-learn_from-in-Some-clause-further g c =
    further_part _ _ _ (further_same _ _ _ (extends_further _ _ c.loop-step.invariant.extends) c.search.ensures.same) c.learn_from.ensures.kept c.in_err-learn_from-in-Some.ensures.unlogged

pub returns-then-branch-clause-further : goal.returns-then-branch-clause-further
returns-then-branch-clause-further g c =
    further_one _ _ _ _ (further_same _ _ _ (extends_further _ _ c.loop-step.invariant.extends) c.search.ensures.same) c.in_ok-learn_from-in-Some.ensures.one

pub returns-in_err-search-2-clause-further : goal.returns-in_err-search-2-clause-further
returns-in_err-search-2-clause-further g c = further_same _ _ _ (extends_further _ _ c.loop-step.invariant.extends) c.search-2.ensures.same

pub returns-in-None-2-clause-further : goal.returns-in-None-2-clause-further
returns-in-None-2-clause-further g c = further_same _ _ _ (extends_further _ _ c.loop-step.invariant.extends) c.search-2.ensures.same

pub returns-in-Some-2-clause-further : goal.returns-in-Some-2-clause-further
returns-in-Some-2-clause-further g c = further_same _ _ _ (extends_further _ _ c.loop-step.invariant.extends) c.search-2.ensures.same
