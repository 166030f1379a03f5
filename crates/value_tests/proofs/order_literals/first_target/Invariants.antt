use Rattle.std.proofs.Common.{take}
use Rattle.std.specs.Option.{option_copied}
use Rattle.value_tests.specs.FirstTerms.{IsFirstWith}
use Rattle.value_tests.specs.RangePlaces.{IsOrderTargetIn}
use Rattle.value_tests.proofs.order_literals.first_target.Given as goal

abbrev pub invariant-triples : goal.invariant-triples
invariant-triples l = IsFirstWith (IsOrderTargetIn (take l.triple-index l.triples)) (option_copied l.first)
