use Rattle.std.proofs.Common.{take}
use Rattle.proof_documents.specs.Text.{IsPlain}
use Rattle.proof_documents.proofs.text.split_line.Given as goal

abbrev pub invariant-loop-end : goal.invariant-loop-end
invariant-loop-end l = IsPlain (take l.end l.bytes)
