use Rattle.std.proofs.Common.{◌<◌, ◌^◌, Some, None, ap, sym, ◌∙◌, lit<, rules}
use Rattle.std.proofs.lemmas.Str.Pattern.{strip_prefix_char}
use Rattle.proof_documents.proofs.NumbersText.{one_taken, no_number, all_taken, one_list}
use Rattle.proof_documents.proofs.numbers.parse_numbers.Goals as goal

pub returns-in_err-ok_or-clause-only : goal.returns-in_err-ok_or-clause-only
returns-in_err-ok_or-clause-only c = λ ns short e.
    let none = rw c.in_err-ok_or.ensures.ok_part at c.parse_numeral.ensures in
    let space = strip_prefix_char 32 c.numbers.rest.now (Some c.in-Some.behind) c.in-Some.ensures.cases (lit< tt) in
    absurd (no_number _ _ _ _ _ _ c.numbers.invariant.1 space c.split_at_space.ensures none ns short e)

pub numbers-preserved : goal.numbers-preserved
numbers-preserved c =
    let spelled = rw c.in_ok-ok_or.ensures.ok_part at c.parse_numeral.ensures in
    let space = strip_prefix_char 32 c.numbers.rest.now (Some c.in-Some.behind) c.in-Some.ensures.cases (lit< tt) in
    let short : c.in_ok-ok_or.field-0 < 2 ^ 64 = search rules in (
      search rules,
      rw c.in_ok-push.ensures.ok (one_taken _ _ _ _ _ _ _ c.numbers.invariant.1 space c.split_at_space.ensures short spelled),
    )

pub returns-clause-found : goal.returns-clause-found
returns-clause-found c =
    let none = strip_prefix_char 32 c.numbers.rest.now None c.in_default.ensures.cases (lit< tt) in
    (c.numbers.invariant.1.short, all_taken _ _ _ c.numbers.invariant.1 none)

pub returns-clause-only : goal.returns-clause-only
returns-clause-only c = λ ns short e.
    let none = strip_prefix_char 32 c.numbers.rest.now None c.in_default.ensures.cases (lit< tt) in
    ap Some (one_list _ _ short c.numbers.invariant.1.short (sym e ∙ all_taken _ _ _ c.numbers.invariant.1 none))
