use Rattle.std.proofs.Common.{rules, ◌≡◌, length, ap, arith, length-append, inl, inr, false}
use Rattle.std.specs.Prelude.{map}
use Rattle.std.specs.Str.{IsUtf8}
use Rattle.turtle_tokens.specs.Places.{has_all_arguments}
use Rattle.turtle_tokens.specs.Cuts.{placed}
use Rattle.turtle_tokens.proofs.CutLaws.{cutting_begin, cutting_more, cutting_done, cutting_stops}
use Rattle.turtle_tokens.proofs.statement.cut_statement.Goals.{then-tokens-test+else-not-has_all_arguments, else-tokens-test}
use Rattle.turtle_tokens.proofs.statement.cut_statement.Goals as goal

pub tokens-init : goal.tokens-init
tokens-init c = (search rules, rw c.new-tokens.ensures.items (cutting_begin c.args.at_end c.args.at c.args.text.now))

pub tokens-smaller : goal.tokens-smaller
tokens-smaller c = omega (arith, ap length c.in-Some.ensures.0, c.in-Some.ensures.1, c.skip_filling-next.ensures.shorter, length-append c.in-Some.token.text.now c.in-Some.after.now)

pub tokens-preserved : goal.tokens-preserved
tokens-preserved c =
    let u : IsUtf8 c.in-Some.after.now = search rules in
    let v : IsUtf8 c.skip_filling-next.result.now = search rules in
    let d : c.tokens.ended ≡ false = search rules in
    let full : has_all_arguments (map placed c.tokens.tokens.items) ≡ false = search rules in
    (v, rw (c.in_ok-push-in-Some.ensures.items, c.is_dot-ended.ensures) (cutting_more c.args.at_end c.args.at c.args.text.now c.tokens.tokens.items c.tokens.next_at c.tokens.rest.now c.tokens.ended c.in-Some.token c.in-Some.after.now c.skip_filling-next.result.now u v d full c.in-Some.ensures c.skip_filling-next.ensures.shorter c.skip_filling-next.ensures.skips c.tokens.invariant.1))

pub returns-in-None-clause-cut : goal.returns-in-None-clause-cut
returns-in-None-clause-cut c = cutting_stops c.args.at_end c.args.at c.args.text.now c.tokens.tokens.items c.tokens.next_at c.tokens.rest.now c.tokens.ended c.in-None.ensures c.tokens.invariant.1

pub returns-clause-cut : goal.returns-clause-cut
returns-clause-cut c =
    elim c.tokens-test.branch [
      | then-tokens-test+else-not-has_all_arguments w ↦ cutting_done c.args.at_end c.args.at c.args.text.now c.tokens.tokens.items c.tokens.next_at c.tokens.rest.now c.tokens.ended (inr (search rules)) c.tokens.invariant.1
      | else-tokens-test w ↦ cutting_done c.args.at_end c.args.at c.args.text.now c.tokens.tokens.items c.tokens.next_at c.tokens.rest.now c.tokens.ended (inl (search rules)) c.tokens.invariant.1
    ]
