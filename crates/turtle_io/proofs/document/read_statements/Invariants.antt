use Rattle.std.proofs.Common.{length}
use denote.Text.{Utf8}
use denote.Shadow.{shadow}
use Rattle.turtle_statements.specs.Names.{names_of, AreLawfulNames}
use Rattle.turtle_io.specs.Loop.{state_of}
use Rattle.turtle_io.proofs.Going.{Going}
use Rattle.turtle_io.proofs.document.read_statements.Given as goal

abbrev pub invariant-statements : goal.invariant-statements
invariant-statements l =
    shadow (Utf8 l.rest) × Going l.at_end l.at l.text l.fn.role l.here l.rest (state_of l.context l.out) × AreLawfulNames (names_of l.context)

abbrev pub decreases-statements : goal.decreases-statements
decreases-statements l = length l.rest
