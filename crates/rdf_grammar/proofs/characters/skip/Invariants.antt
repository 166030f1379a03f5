use Rattle.std.proofs.Common.{length}
use denote.Text.{Utf8}
use denote.Shadow.{shadow}
use Rattle.std.specs.Str.{chars}
use Rattle.grammar_forms.specs.Reading.{one_at}
use Rattle.grammar_forms.proofs.Loops.{Passed}
use Rattle.rdf_grammar.proofs.characters.skip.Given as goal

abbrev pub invariant-class : goal.invariant-class
invariant-class g l = shadow (Utf8 l.rest) × Passed (one_at (g.C.CharClass.test l.class)) (chars l.text) (chars l.rest)

abbrev pub decreases-class : goal.decreases-class
decreases-class g l = length (chars l.rest)
