use Rattle.std.proofs.Common.{length}
use denote.Text.{Utf8}
use denote.Shadow.{shadow}
use Rattle.std.specs.Str.{chars}
use Rattle.grammar_forms.proofs.NameEnds.{NameSoFar}
use Rattle.rdf_grammar.specs.Productions.{is_name_char}
use Rattle.rdf_grammar.proofs.labels.skip_label_end.Given as goal

abbrev pub invariant-loop-c : goal.invariant-loop-c
invariant-loop-c l = shadow (Utf8 l.rest) × shadow (Utf8 l.ahead) × NameSoFar (is_name_char l.dialect) (chars l.text) (chars l.rest) (chars l.ahead)

abbrev pub decreases-loop-c : goal.decreases-loop-c
decreases-loop-c l = length (chars l.ahead)
