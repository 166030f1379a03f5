use Rattle.std.proofs.Common.{rules}
use Rattle.std.specs.Cow.{cow_str_bytes}
use Rattle.std.specs.Str.{chars}
use Rattle.grammar_forms.specs.Exact.{anything}
use Rattle.rdf_grammar.specs.Productions.{iriref}
use Rattle.rdf_grammar.specs.Reading.{iriref_at}
use Rattle.rdf_grammar.proofs.Productions.{iriref_exact}
use Rattle.turtle_terms.proofs.Meanings.{read_whole, not_whole, missed}
use Rattle.turtle_terms.proofs.references.parse_reference.Goals as goal

pub returns-in_err-reference : goal.returns-in_err-reference
returns-in_err-reference c =
    let m = missed iriref anything iriref_at iriref_exact tt (chars c.args.token.now) c.in_err-reference.field-0.0 c.in_err-reference.ensures in
    search rules

pub returns-then-is_end : goal.returns-then-is_end
returns-then-is_end c =
    read_whole iriref anything iriref_at iriref_exact (chars c.args.token.now) (cow_str_bytes c.in_ok-reference.reference) (chars c.in_ok-reference.rest.now) (c.is_end.ensures.ends c.if-is_end.true) c.in_ok-reference.ensures

pub returns : goal.returns
returns c =
    not_whole iriref anything iriref_at iriref_exact tt (chars c.args.token.now) (cow_str_bytes c.in_ok-reference.reference) (chars c.in_ok-reference.rest.now) (c.is_end.ensures.goes_on c.if-is_end.false) c.in_ok-reference.ensures
