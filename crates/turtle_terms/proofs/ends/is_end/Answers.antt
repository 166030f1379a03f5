use Rattle.std.proofs.Common.{sym, ◌∙◌}
use Rattle.turtle_terms.proofs.Meanings.{no_chars, some_chars}
use Rattle.turtle_terms.proofs.ends.is_end.Goals as goal

pub returns-clause-ends : goal.returns-clause-ends
returns-clause-ends c = λ h. no_chars c.args.rest.now (sym c.is_empty.ensures ∙ h)

pub returns-clause-goes_on : goal.returns-clause-goes_on
returns-clause-goes_on c = λ h. some_chars c.args.rest.now c.utf8.rest (sym c.is_empty.ensures ∙ h)
