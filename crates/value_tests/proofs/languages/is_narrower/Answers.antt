use Rattle.std.proofs.Common.{ℕ, ◌&&◌, length, take, sym, ap, ◌∙◌}
use Rattle.std.specs.Prelude.{nat_eq}
use Rattle.std.specs.Str.{str_eq_ignore_ascii_case}
use Rattle.value_tests.proofs.LanguageLaws.{narrower, no_dash}
use Rattle.value_tests.proofs.languages.is_narrower.Goals as goal

pub returns-then-tag-range-eq45 : goal.returns-then-tag-range-eq45
returns-then-tag-range-eq45 c =
    let tag = c.args.tag.now in
    let range = c.args.range.now in
    c.are_alike.ensures ∙ sym (ap (λ (n : ℕ). nat_eq n 45 && str_eq_ignore_ascii_case (take (length range) tag) range) c.if-tag-range-eq45.true)
    ∙ narrower tag range c.if-tag-range.false

pub returns-else-tag-range-eq45 : goal.returns-else-tag-range-eq45
returns-else-tag-range-eq45 c =
    let tag = c.args.tag.now in
    let range = c.args.range.now in
    no_dash _ (str_eq_ignore_ascii_case (take (length range) tag) range) c.if-tag-range-eq45.false ∙ narrower tag range c.if-tag-range.false
