use Rattle.std.proofs.Common.{◌≡◌, false, None, length, string_bytes}
use denote.Text.{Utf8}
use denote.Shadow.{shadow}
use Rattle.std.specs.Str.{chars}
use Rattle.grammar_forms.specs.Reading.{one_at}
use Rattle.turtle_terms.specs.Appending.{LeavesRest}
use Rattle.turtle_terms.specs.Names.{is_not_backslash}
use Rattle.turtle_terms.proofs.names.push_unescaped.Given as goal

abbrev pub invariant-escapes : goal.invariant-escapes
invariant-escapes l = record {
  utf8 : shadow (Utf8 l.rest);
  leaves : LeavesRest false (string_bytes l.fn.out) (chars l.local) (string_bytes l.out) (chars l.rest);
  stops : one_at is_not_backslash (chars l.rest) ≡ None;
}

abbrev pub decreases-escapes : goal.decreases-escapes
decreases-escapes l = length (chars l.rest)
