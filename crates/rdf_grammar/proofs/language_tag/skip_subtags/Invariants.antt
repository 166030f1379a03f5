use Rattle.std.proofs.Common.{length}
use denote.Text.{Utf8}
use denote.Shadow.{shadow}
use Rattle.std.specs.Str.{chars}
use Rattle.grammar_forms.proofs.Loops.{Passed}
use Rattle.rdf_grammar.specs.Reading.{subtag_at}
use Rattle.rdf_grammar.proofs.language_tag.skip_subtags.Given as goal

abbrev pub invariant-subtags : goal.invariant-subtags
invariant-subtags l = shadow (Utf8 l.rest) × Passed subtag_at (chars l.text) (chars l.rest)

abbrev pub decreases-subtags : goal.decreases-subtags
decreases-subtags l = length (chars l.rest)
