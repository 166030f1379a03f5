use Rattle.std.proofs.Common.{◌≡◌, take}
use Rattle.sat_core.specs.Solving.{HasEmpty}
use Rattle.shrink_pair.specs.Sessions.{state_of, with_premises, outside_premises}
use Rattle.shrink_pair.proofs.session.Session.push_outside.Given as goal

abbrev pub invariant-candidates : goal.invariant-candidates
invariant-candidates l =
    record {
      state : state_of l.self ≡ with_premises (state_of l.fn.self) (outside_premises l.pair (take l.candidate-index l.left));
      full : ¬ (HasEmpty l.self.solver.clauses);
    }
