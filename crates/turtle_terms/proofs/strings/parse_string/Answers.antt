use Rattle.std.proofs.Common.{List, ℕ, rules, subst, sym}
use Rattle.std.specs.Cow.{cow_str_bytes}
use Rattle.std.specs.Str.{IsUtf8, chars}
use Rattle.turtle_terms.specs.Strings.{string}
use Rattle.turtle_terms.proofs.QuotedParts.{string_read, string_missed, between_lawful}
use Rattle.turtle_terms.proofs.strings.parse_string.Goals as goal

pub returns-in_err-lexical-clause-means : goal.returns-in_err-lexical-clause-means
returns-in_err-lexical-clause-means c =
    let m = string_missed c.args.token.now c.marks_of.result.now c.utf8.token c.marks_of.ensures.marks c.in_err-lexical.field-0.0 c.in_err-lexical.ensures in
    search rules

pub returns-clause-means : goal.returns-clause-means
returns-clause-means c =
    subst (λ (v : List ℕ). string (chars c.args.token.now) v) (sym c.in_ok-text_of_read.ensures)
    (string_read c.args.token.now c.marks_of.result.now (cow_str_bytes c.in_ok-lexical.lexical) c.utf8.token c.marks_of.ensures.marks c.in_ok-lexical.ensures)

pub returns-clause-lawful : goal.returns-clause-lawful
returns-clause-lawful c =
    subst (λ (v : List ℕ). IsUtf8 v) (sym c.in_ok-text_of_read.ensures)
    (between_lawful c.marks_of.result.now (chars c.args.token.now) (cow_str_bytes c.in_ok-lexical.lexical) c.in_ok-lexical.ensures)
