-- What a call means to write, as a report, before the first write.
use Rattle.std.specs.Prelude.{ℕ, List, []}
use Rattle.explain_cli.specs.declared.report.Report.{Report}
use Rattle.explain_cli.specs.declared.status.Status.{Status}

-- an answer to out, and no notes
abbrev pub answer : Status → List ℕ → Report
answer status out = record { status = status; out = out; notes = [] }

-- notes, and nothing to out
abbrev pub note : Status → List ℕ → Report
note status notes = record { status = status; out = []; notes = notes }
