use Rattle.std.proofs.Common.{subst, IfNone}
use Rattle.sat_core.specs.Assignments.{IsAtRest}
use Rattle.sat_core.specs.Solving.{assigned}
use Rattle.sat_core.proofs.Whole.{model_of}
use Rattle.sat_core.proofs.solver.Solver.search.Goals as goal

pub returns-in-None-choose-clause-model : goal.returns-in-None-choose-clause-model
returns-in-None-choose-clause-model g c =
    let s = c.propagate.new.self in
    model_of s (subst (λ o. IfNone o (IsAtRest (assigned s) s.clauses)) c.in-None.is c.in_ok-conflict.ensures.rest) c.in-None-choose.ensures.none c.in-None-choose.ensures.once
