use Rattle.std.proofs.Common.{◌≡◌, take}
use Rattle.sat_core.specs.Solving.{HasEmpty}
use Rattle.clause_ground.specs.Grounds.{premises}
use Rattle.shrink_pair.specs.Sessions.{state_of, with_premises}
use Rattle.shrink_pair.proofs.session.Session.push_premises.Given as goal

abbrev pub invariant-premises : goal.invariant-premises
invariant-premises l =
    record {
      state : state_of l.self ≡ with_premises (state_of l.fn.self) (take l.r (premises l.ground));
      full : ¬ (HasEmpty l.self.solver.clauses);
    }
