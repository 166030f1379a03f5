use Rattle.std.proofs.Common.{rules}
use Rattle.std.specs.Str.{chars}
use Rattle.grammar_forms.proofs.Loops.{consumes, passed_more, passed_done}
use Rattle.rdf_grammar.specs.Reading.{subtag_at, subtags_at}
use Rattle.rdf_grammar.proofs.Productions.{subtag_exact, subtag_nonempty}
use Rattle.rdf_grammar.proofs.language_tag.skip_subtags.Goals as goal

pub subtags-preserved : goal.subtags-preserved
subtags-preserved c = (search rules, passed_more subtag_at (consumes subtag_exact subtag_nonempty) _ _ tt (chars c.in-Some.after.now) c.in-Some.ensures c.subtags.invariant.1)

pub subtags-smaller : goal.subtags-smaller
subtags-smaller c = consumes subtag_exact subtag_nonempty _ _ c.in-Some.ensures

pub returns : goal.returns
unfolding subtags_at
returns c = passed_done subtag_at _ _ c.in_default.ensures c.subtags.invariant.1
