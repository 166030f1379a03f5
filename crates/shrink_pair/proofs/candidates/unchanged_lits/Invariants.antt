use Rattle.std.proofs.Common.{◌≡◌, take}
use Rattle.shrink_pair.specs.Sessions.{unchanged_lits}
use Rattle.shrink_pair.proofs.candidates.unchanged_lits.Given as goal

abbrev pub invariant-candidates : goal.invariant-candidates
invariant-candidates l = l.found ≡ unchanged_lits (take l.candidate-index l.candidates)
