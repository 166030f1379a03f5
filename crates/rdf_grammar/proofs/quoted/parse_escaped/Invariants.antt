use Rattle.std.proofs.Common.{length, ◌≡◌, None, string_bytes}
use denote.Text.{Utf8}
use denote.Shadow.{shadow}
use Rattle.std.specs.Str.{chars}
use Rattle.grammar_forms.specs.Reading.{one_at, either_at}
use Rattle.grammar_forms.proofs.Loops.{Written}
use Rattle.rdf_grammar.proofs.quoted.parse_escaped.Given as goal

abbrev pub invariant-escapes : goal.invariant-escapes
invariant-escapes g l = record {
  utf8 : shadow (Utf8 l.rest);
  written : Written (either_at (one_at (g.Q.CharClass.test l.quoted)) (g.Q.Quoted.escape_at l.quoted)) (chars l.text) (chars l.rest) (string_bytes l.out);
  stops : one_at (g.Q.CharClass.test l.quoted) (chars l.rest) ≡ None;
}

abbrev pub decreases-escapes : goal.decreases-escapes
decreases-escapes g l = length (chars l.rest)
