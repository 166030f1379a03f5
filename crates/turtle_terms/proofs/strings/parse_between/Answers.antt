use Rattle.std.specs.Cow.{cow_str_bytes}
use Rattle.turtle_terms.proofs.QuotedParts.{between_means, not_between}
use Rattle.turtle_terms.proofs.strings.parse_between.Goals as goal

pub returns-in-Some : goal.returns-in-Some
returns-in-Some c =
    between_means (λ s. cow_str_bytes s) c.parse_parts.result c.args.marks.now c.args.token.now c.in-Some.inner.now c.requires c.utf8.token c.in-Some.ensures c.parse_parts.ensures

pub returns-in-None : goal.returns-in-None
returns-in-None c = not_between c.args.marks.now c.args.token.now c.requires c.utf8.token c.in-None.ensures
