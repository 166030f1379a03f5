use Rattle.std.proofs.Common.{◌≡◌, ◌++◌, take}
use Rattle.shrink_pair.specs.Sessions.{step_lines}
use Rattle.shrink_pair.proofs.session.push_steps.Given as goal

abbrev pub invariant-steps : goal.invariant-steps
invariant-steps l = l.lines ≡ l.fn.lines ++ step_lines (take l.step-index l.steps)
