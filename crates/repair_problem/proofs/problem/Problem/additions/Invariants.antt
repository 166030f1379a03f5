use Rattle.std.proofs.Common.{◌≡◌, take}
use Rattle.std.specs.Prelude.{filter_map}
use Rattle.repair_problem.specs.Candidates.{addition_at}
use Rattle.repair_problem.proofs.problem.Problem.additions.Given as goal

abbrev pub invariant-candidates : goal.invariant-candidates
invariant-candidates l = l.added ≡ filter_map (addition_at l.self) (take l.t-index l.t-items)
