use Rattle.std.proofs.Common.{rules, ◌≡◌, ◌<◌, ◌^◌, ◌++◌, get_or}
use Rattle.std.proofs.lemmas.List.Elements.{All-from_get_or}
use Rattle.std.specs.Prelude.{codes, decimal}
use Rattle.certificates.proofs.Written.{begun, one_more_at, ended}
use Rattle.certificates.proofs.writing.push_numbers.Goals as goal

pub numbers-init : goal.numbers-init
numbers-init c = begun (λ n. codes " " ++ decimal n) c.args.numbers.now c.args.out.now

pub numbers-preserved : goal.numbers-preserved
numbers-preserved c =
    let g : c.append.new.self ≡ c.numbers.out ++ (codes " " ++ decimal (get_or c.args.numbers.now c.numbers.number-index 0)) = search rules in
    one_more_at (λ n. codes " " ++ decimal n) c.args.numbers.now c.args.out.now c.numbers.out c.append.new.self c.numbers.number-index 0 c.numbers-test.true c.numbers.invariant g

pub returns-clause-text : goal.returns-clause-text
returns-clause-text c = ended (λ n. codes " " ++ decimal n) c.args.numbers.now c.args.out.now c.numbers.out c.numbers.number-index c.numbers-test.false c.numbers.invariant

pub returns-clause-short : goal.returns-clause-short
returns-clause-short c = All-from_get_or (λ n. n < 2 ^ 64) c.args.numbers.now 0 (λ i lt. (c.type_inv.numbers i).fits)
