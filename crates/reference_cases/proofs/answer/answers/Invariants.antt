use denote.Text.{Utf8}
use denote.Shadow.{shadow}
use Rattle.reference_cases.proofs.answer.answers.Given as goal

abbrev pub invariant-lines : goal.invariant-lines
invariant-lines l = shadow (Utf8 l.base)
