use Rattle.std.proofs.Common.{length, string_bytes}
use denote.Text.{Utf8}
use denote.Shadow.{shadow}
use Rattle.iri_references.proofs.Turns.{Turning}
use Rattle.iri_references.proofs.dot_segments.remove_dot_segments.Given as goal

abbrev pub invariant-turns : goal.invariant-turns
invariant-turns l = record {
  utf8 : shadow (Utf8 l.input);
  turning : Turning l.path l.input (string_bytes l.output);
}

abbrev pub decreases-turns : goal.decreases-turns
decreases-turns l = length l.input
