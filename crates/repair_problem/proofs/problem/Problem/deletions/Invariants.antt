use Rattle.std.proofs.Common.{◌≡◌, take}
use Rattle.std.specs.Prelude.{filter_map}
use Rattle.repair_problem.specs.Candidates.{deletion_at}
use Rattle.repair_problem.proofs.problem.Problem.deletions.Given as goal

abbrev pub invariant-candidates : goal.invariant-candidates
invariant-candidates l = l.deleted ≡ filter_map (deletion_at l.self) (take l.t-index l.t-items)
