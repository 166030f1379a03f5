use Rattle.std.proofs.Common.{◌≡◌, None, rules}
use Rattle.std.specs.Cow.{cow_str_bytes}
use Rattle.std.specs.Str.{chars}
use Rattle.grammar_forms.specs.Forms.{many, written}
use Rattle.grammar_forms.specs.Reading.{all_at, written_at}
use Rattle.turtle_terms.specs.Strings.{quoted_part}
use Rattle.turtle_terms.proofs.QuotedParts.{part_at, parts_exact, no_part}
use Rattle.turtle_terms.proofs.Meanings.{read_whole, not_whole, missed}
use Rattle.turtle_terms.proofs.strings.parse_parts.Goals as goal

pub returns-in_err-lexical : goal.returns-in_err-lexical
returns-in_err-lexical c =
    let m = missed (written (many quoted_part)) (λ t. part_at t ≡ None) (written_at (all_at part_at)) parts_exact no_part (chars c.args.inner.now) c.in_err-lexical.field-0.0 c.in_err-lexical.ensures in
    search rules

pub returns-then-is_end : goal.returns-then-is_end
returns-then-is_end c =
    read_whole (written (many quoted_part)) (λ t. part_at t ≡ None) (written_at (all_at part_at)) parts_exact (chars c.args.inner.now) (cow_str_bytes c.in_ok-lexical.lexical) (chars c.in_ok-lexical.rest.now) (c.is_end.ensures.ends c.if-is_end.true) c.in_ok-lexical.ensures

pub returns : goal.returns
returns c =
    not_whole (written (many quoted_part)) (λ t. part_at t ≡ None) (written_at (all_at part_at)) parts_exact no_part (chars c.args.inner.now) (cow_str_bytes c.in_ok-lexical.lexical) (chars c.in_ok-lexical.rest.now) (c.is_end.ensures.goes_on c.if-is_end.false) c.in_ok-lexical.ensures
