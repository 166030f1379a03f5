use Rattle.std.proofs.Common.{length}
use denote.Text.{Utf8}
use denote.Shadow.{shadow}
use Rattle.turtle_tokens.proofs.CutLaws.{Cutting}
use Rattle.turtle_tokens.proofs.statement.cut_statement.Given as goal

abbrev pub invariant-tokens : goal.invariant-tokens
invariant-tokens l = shadow (Utf8 l.rest) × Cutting l.at_end l.at l.text l.tokens.items l.next_at l.rest l.ended

abbrev pub decreases-tokens : goal.decreases-tokens
decreases-tokens l = length l.rest
