use Rattle.std.proofs.Common.{length}
use denote.Text.{Utf8}
use denote.Shadow.{shadow}
use Rattle.proof_documents.proofs.NumbersText.{SoFar}
use Rattle.proof_documents.proofs.numbers.parse_numbers.Given as goal

abbrev pub invariant-numbers : goal.invariant-numbers
invariant-numbers l = shadow (Utf8 l.rest) × SoFar l.text l.numbers l.rest

abbrev pub decreases-numbers : goal.decreases-numbers
decreases-numbers l = length l.rest
