use Rattle.std.proofs.Common.{take}
use Rattle.std.specs.Option.{option_copied}
use Rattle.value_tests.specs.FirstTerms.{IsFirstWith}
use Rattle.value_tests.specs.RangePlaces.{IsOrderTermIn}
use Rattle.value_tests.proofs.order_literals.first_object.Given as goal

abbrev pub invariant-triples : goal.invariant-triples
invariant-triples l = IsFirstWith (IsOrderTermIn l.shapes (take l.triple-index l.triples)) (option_copied l.first)
