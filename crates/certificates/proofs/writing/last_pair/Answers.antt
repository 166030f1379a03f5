use Rattle.std.proofs.Common.{◌∙◌, ap, sym, [], ◌∷◌}
use Rattle.std.specs.Option.{option_copied}
use Rattle.certificates.specs.Writing.{pair_behind}
use Rattle.certificates.proofs.Written.{pair_begun, pair_next, pair_left, pair_ended}
use Rattle.certificates.proofs.writing.last_pair.Goals.{in-Chain, in_default}
use Rattle.certificates.proofs.writing.last_pair.Goals as goal

pub lines-init : goal.lines-init
lines-init c = pair_begun c.args.lines.now

pub lines-preserved : goal.lines-preserved
lines-preserved c =
    let next = pair_next c.args.lines.now c.lines.line-index c.line-item.result (option_copied c.lines.last) c.lines-test.true c.line-item.is c.lines.invariant in
    elim c.match-line.branch [
      | in-Chain w ↦ ap option_copied w.last-is ∙ (sym (ap (λ x. pair_behind (option_copied c.lines.last) (x ∷ [])) w.in-Chain.is) ∙ next)
      | in_default w ↦ ap option_copied w.last-is ∙ (sym (pair_left c.line-item.result (option_copied c.lines.last) w.in_default.not-Chain) ∙ next)
    ]

pub returns : goal.returns
returns c = pair_ended c.args.lines.now c.lines.line-index (option_copied c.lines.last) c.lines-test.false c.lines.invariant
