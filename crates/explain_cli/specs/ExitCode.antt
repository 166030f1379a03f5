-- The exit status of the program for each status of a call.
use Rattle.std.specs.Prelude.{ℕ}
use Rattle.explain_cli.specs.declared.status.Status.{Status}
use Rattle.explain_cli.specs.declared.status.Status.TheVariants.{Done, No, Usage, Input, Read, Write, Memory, Spent}

abbrev pub code_of : Status → ℕ
code_of Done = 0
code_of No = 1
code_of Usage = 2
code_of Input = 3
code_of Read = 4
code_of Write = 5
code_of Memory = 6
code_of Spent = 8
