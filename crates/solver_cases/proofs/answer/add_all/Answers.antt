use Rattle.std.proofs.Common.{rules, ◌≡◌, ◌≢◌, ◌++◌, ◌∷◌, [], sym, subst, ◌∙◌}
use Rattle.sat_core.specs.Solving.{HasEmpty}
use Rattle.sat_core.proofs.Whole.{full_more}
use Rattle.solver_cases.proofs.answer.add_all.Goals as goal

pub loop-clause-preserved : goal.loop-clause-preserved
loop-clause-preserved c =
    record {
      filled = subst (λ x. ¬ (HasEmpty x)) (sym c.in_ok-add_clause.ensures.added) (full_more c.loop-clause.solver.clauses _ c.loop-clause.invariant.filled (search rules));
      log = c.add_clause.ensures.log ∙ c.loop-clause.invariant.log;
    }
