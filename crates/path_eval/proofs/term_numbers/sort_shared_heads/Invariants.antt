use Rattle.std.proofs.Common.{length, ◌-◌}
use Rattle.std.specs.List.Sorted.{IsPermutation}
use Rattle.path_eval.proofs.term_numbers.sort_shared_heads.Given as goal

abbrev pub invariant-stretches : goal.invariant-stretches
invariant-stretches l = IsPermutation l.initial.headed l.headed

abbrev pub decreases-stretches : goal.decreases-stretches
decreases-stretches l = length l.headed - l.start
