use Rattle.std.proofs.Common.{◌≢◌, ◌<◌, length, get_or, ap, ◌∙◌, arith, below_more}
use Rattle.std.proofs.lemmas.List.{length-set, get_or-set_same, get_or-set_other}
use Rattle.path_eval.proofs.RankLaws.{looked_up}
use Rattle.path_eval.proofs.term_numbers.look_up.Goals as goal

pub places-preserved : goal.places-preserved
places-preserved c =
    let ps = c.places.places in
    let i = c.places.place-index in
    let x = get_or c.args.table.now (get_or ps i 0) 0 in
    let lt : i < length ps = omega arith in
    record {
      long = length-set ps i x ∙ c.places.invariant.long;
      done = below_more _ _
          (λ k h. let ne : k ≢ i = omega arith in get_or-set_other ps i k x 0 ne ∙ c.places.invariant.done k h)
          (get_or-set_same ps i x 0 lt ∙ ap (λ p. get_or c.args.table.now p 0) (c.places.invariant.left i (omega arith)));
      left = λ k h. let ne : k ≢ i = omega arith in get_or-set_other ps i k x 0 ne ∙ c.places.invariant.left k (omega (arith, h));
    }

pub returns : goal.returns
returns c = looked_up c.args.places.now c.places.places c.args.table.now c.places.invariant.long (λ k l. c.places.invariant.done k (omega (arith, l, c.places-test.false)))
