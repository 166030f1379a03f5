use Rattle.std.proofs.Common.{◌≡◌, ◌<◌, ◌≤◌, length, true, false}
use Rattle.sat_core.specs.Passed.{IsAtRestUpTo}
use Rattle.sat_core.specs.Solving.{HasGrown, assigned}
use Rattle.sat_core.proofs.solver.Solver.pass.Given as goal

abbrev pub invariant-loop-i : goal.invariant-loop-i
invariant-loop-i g l =
    record {
      grown : HasGrown l.fn.self l.self;
      more : l.changed ≡ true → (length l.fn.self.trail < length l.self.trail) × (length l.self.trail ≤ l.self.room);
      quiet : l.changed ≡ false → IsAtRestUpTo (assigned l.self) l.self.clauses l.i;
    }
