-- What a call leaves in its two sinks, and why.
use Rattle.std.specs.Prelude.{◌≡◌, ℕ, ◌⊎◌, List, Option}
use Rattle.shelf_io.specs.Documents.{Gained, GainedPrefix}
use Rattle.shelf_io.specs.Causes.{Rose}
use Rattle.document_input.specs.Told.{Change, ShelfTold}
use Rattle.explain_cli.specs.declared.report.Report.{Report}
use Rattle.explain_cli.specs.declared.status.Status.{Status}
use Rattle.explain_cli.specs.declared.status.Status.TheVariants.{Write, Memory}
use Rattle.explain_cli.specs.Answer.{Means}

-- what a sink tells: the bytes that were written, where it tells them, and its count of faults
pub record SinkTold : Type 0 where
  pub written : Option (List ℕ)
  pub faults : ℕ

abbrev pub sink_told : {Sink : Type 0} → (Sink → Option (List ℕ)) → (Sink → ℕ) → Sink → SinkTold
sink_told written faults sink = record { written = written sink; faults = faults sink }

-- the sink's count of faults rose
abbrev pub RoseIn : Change SinkTold → Type 0
RoseIn sink = Rose sink.before.faults sink.after.faults

-- each sink gained all of its text
pub record Wrote (report : Report) (out notes : Change SinkTold) : Type 0 where
  pub out_gained : Gained out.before.written out.after.written report.out
  pub notes_gained : Gained notes.before.written notes.after.written report.notes

-- out failed: it gained a prefix of its text, and the notes nothing
pub record BrokeAtOut (report : Report) (out notes : Change SinkTold) : Type 0 where
  pub rose : RoseIn out
  pub out_gained : GainedPrefix out.before.written out.after.written report.out
  pub notes_kept : notes.after.written ≡ notes.before.written

-- the notes failed: out gained all of its text, and the notes a prefix of theirs
pub record BrokeAtNotes (report : Report) (out notes : Change SinkTold) : Type 0 where
  pub rose : RoseIn notes
  pub out_gained : Gained out.before.written out.after.written report.out
  pub notes_gained : GainedPrefix notes.before.written notes.after.written report.notes

-- the status after the writes: that of the report, or that a sink did not take all of its text
abbrev pub Writes : Report → Change SinkTold → Change SinkTold → Status → Type 0
Writes report out notes status =
    ((status ≡ report.status) × Wrote report out notes)
    ⊎ ((status ≡ Write) × (BrokeAtOut report out notes ⊎ BrokeAtNotes report out notes))

-- a report that was meant was written, or as much of it as the sinks took
pub record WritesReport (words : List (List ℕ)) (shelf : Change ShelfTold) (out notes : Change SinkTold)
    (status : Status) : Type 0 where
  pub report : Report
  pub meant : Means words shelf report
  pub written : Writes report out notes status

-- memory could not be had, and nothing was written
pub record WritesNothing (out notes : Change SinkTold) (status : Status) : Type 0 where
  pub memory : status ≡ Memory
  pub out_kept : out.after.written ≡ out.before.written
  pub notes_kept : notes.after.written ≡ notes.before.written

-- how a call ends
abbrev pub Outcome : List (List ℕ) → Change ShelfTold → Change SinkTold → Change SinkTold → Status → Type 0
Outcome words shelf out notes status = WritesReport words shelf out notes status ⊎ WritesNothing out notes status
