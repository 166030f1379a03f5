use Rattle.std.proofs.Common.{length, ◌-◌, ◌<◌, ◌≤◌}
use Rattle.path_eval.proofs.term_numbers.end_of_head.Given as goal

abbrev pub invariant-sharing : goal.invariant-sharing
invariant-sharing l = record { behind : l.start < l.end; within : l.end ≤ length l.headed }

abbrev pub decreases-sharing : goal.decreases-sharing
decreases-sharing l = length l.headed - l.end
