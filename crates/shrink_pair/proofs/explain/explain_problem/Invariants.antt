use Rattle.std.proofs.Common.{◌≤◌, length}
use Rattle.clause_ground.specs.Grounds.{atoms, premises}
use Rattle.shrink_pair.specs.Sessions.{state_of, awaited, IsSession}
use Rattle.shrink_pair.proofs.explain.explain_problem.Given as goal

abbrev pub invariant-searches : goal.invariant-searches
invariant-searches l =
    record {
      session : IsSession l.problem (atoms l.ground) (premises l.ground) (state_of l.session);
      bound : length l.session.solver.log ≤ l.budget;
    }

abbrev pub decreases-searches : goal.decreases-searches
decreases-searches l = awaited (state_of l.session)
