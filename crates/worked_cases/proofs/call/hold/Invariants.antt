use Rattle.std.proofs.Common.{IsSome}
use Rattle.shelf_io.specs.Kept.{kept_at}
use Rattle.worked_cases.proofs.call.hold.Given as goal

abbrev pub invariant-loop-call : goal.invariant-loop-call
invariant-loop-call l = IsSome (kept_at l.shelf l.name)
