use Rattle.std.proofs.Common.{◌≡◌, ◌≤◌, length}
use Rattle.literal_signs.specs.Marked.{marked_set}
use Rattle.sat_core.specs.Walked.{IsWalking}
use Rattle.sat_core.proofs.walk.walk_back.Given as goal

abbrev pub invariant-loop-at : goal.invariant-loop-at
invariant-loop-at g l =
    record {
      within : l.at ≤ length l.trail;
      length : length l.signs ≡ length l.fn.signs;
      walking : IsWalking (g.S.ClauseStore.clauses l.store) l.trail l.starts l.at l.ids.items (marked_set l.signs);
    }

abbrev pub decreases-loop-at : goal.decreases-loop-at
decreases-loop-at g l = l.at
