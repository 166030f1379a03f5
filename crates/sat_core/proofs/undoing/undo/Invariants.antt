use Rattle.std.proofs.Common.{◌≡◌, ◌≤◌, length, take}
use Rattle.sat_core.specs.Kept.{AreSigned}
use Rattle.sat_core.proofs.undoing.undo.Given as goal

abbrev pub invariant-loop-trail : goal.invariant-loop-trail
invariant-loop-trail l =
    record {
      within : l.start ≤ length l.trail.items;
      trail : take l.start l.trail.items ≡ take l.start l.fn.trail.items;
      signed : AreSigned l.trail.items l.signs;
      length : length l.signs ≡ length l.fn.signs;
    }

abbrev pub decreases-loop-trail : goal.decreases-loop-trail
decreases-loop-trail l = length l.trail.items
