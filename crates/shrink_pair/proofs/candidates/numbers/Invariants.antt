use Rattle.std.proofs.Common.{◌≡◌, take}
use Rattle.shrink_pair.specs.Sessions.{numbers}
use Rattle.shrink_pair.proofs.candidates.numbers.Given as goal

abbrev pub invariant-candidates : goal.invariant-candidates
invariant-candidates l = l.found ≡ numbers (take l.candidate-index l.candidates)
