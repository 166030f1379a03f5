use Rattle.std.proofs.Common.{List, ℕ, rules, subst, sym, string_bytes}
use Rattle.std.specs.Str.{chars}
use Rattle.rdf_grammar.specs.Lawful.{IsTag}
use Rattle.rdf_grammar.specs.Productions.{langtag}
use Rattle.rdf_grammar.specs.Reading.{langtag_at, AfterTag}
use Rattle.rdf_grammar.proofs.Lawful.{langtag_lawful}
use Rattle.rdf_grammar.proofs.Productions.{langtag_exact}
use Rattle.turtle_terms.proofs.Meanings.{read_whole, not_whole, missed, after_tag_nil}
use Rattle.turtle_terms.proofs.labels.parse_tag.Goals as goal

pub returns-in_err-tag-clause-means : goal.returns-in_err-tag-clause-means
returns-in_err-tag-clause-means c =
    let m = missed langtag AfterTag langtag_at langtag_exact after_tag_nil (chars c.args.token.now) c.in_err-tag.field-0.0 c.in_err-tag.ensures in
    search rules

pub returns-in_ok-text_of-clause-means : goal.returns-in_ok-text_of-clause-means
returns-in_ok-text_of-clause-means c =
    subst (λ (v : List ℕ). langtag (chars c.args.token.now) v) (sym c.in_ok-text_of.ensures)
    (read_whole langtag AfterTag langtag_at langtag_exact (chars c.args.token.now) (string_bytes c.in_ok-tag.tag) (chars c.in_ok-tag.rest.now) (c.is_end.ensures.ends c.if-is_end.true) c.in_ok-tag.ensures)

pub returns-in_ok-text_of-clause-lawful : goal.returns-in_ok-text_of-clause-lawful
returns-in_ok-text_of-clause-lawful c =
    subst (λ (v : List ℕ). IsTag v) (sym c.in_ok-text_of.ensures)
    (langtag_lawful (chars c.args.token.now) (string_bytes c.in_ok-tag.tag)
    (read_whole langtag AfterTag langtag_at langtag_exact (chars c.args.token.now) (string_bytes c.in_ok-tag.tag) (chars c.in_ok-tag.rest.now) (c.is_end.ensures.ends c.if-is_end.true) c.in_ok-tag.ensures))

pub returns-else-is_end-clause-means : goal.returns-else-is_end-clause-means
returns-else-is_end-clause-means c =
    not_whole langtag AfterTag langtag_at langtag_exact after_tag_nil (chars c.args.token.now) (string_bytes c.in_ok-tag.tag) (chars c.in_ok-tag.rest.now) (c.is_end.ensures.goes_on c.if-is_end.false) c.in_ok-tag.ensures
