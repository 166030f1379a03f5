use Rattle.std.proofs.Common.{◌≡◌, ◌++◌, take, flat_map}
use Rattle.std.specs.Prelude.{codes, decimal}
use Rattle.certificates.proofs.writing.push_numbers.Given as goal

abbrev pub invariant-numbers : goal.invariant-numbers
invariant-numbers l = l.out ≡ l.fn.out ++ flat_map (λ n. codes " " ++ decimal n) (take l.number-index l.numbers)
