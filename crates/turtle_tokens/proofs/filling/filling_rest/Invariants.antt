use Rattle.std.proofs.Common.{length}
use denote.Text.{Utf8}
use denote.Shadow.{shadow}
use Rattle.std.specs.Str.{chars}
use Rattle.turtle_tokens.proofs.FillingLaws.{Skipping}
use Rattle.turtle_tokens.proofs.filling.filling_rest.Given as goal

abbrev pub invariant-characters : goal.invariant-characters
invariant-characters l = shadow (Utf8 l.rest) × (shadow (Utf8 l.behind) × Skipping l.at_end (chars l.text) l.state (chars l.rest) (chars l.behind))

abbrev pub decreases-characters : goal.decreases-characters
decreases-characters l = length (chars l.rest)
