use Rattle.shrink_pair.specs.Sessions.{AreNumbered}
use Rattle.clause_ground.specs.Grounds.{atoms}
use Rattle.shrink_pair.proofs.candidates.occurring_candidates.Given as goal

abbrev pub invariant-candidates : goal.invariant-candidates
invariant-candidates l = AreNumbered l.problem (atoms l.ground) l.t l.found.items
