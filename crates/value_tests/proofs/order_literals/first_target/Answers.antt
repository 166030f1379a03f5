use Rattle.std.proofs.Common.{List, ◌+◌, take, take_all, sym, subst}
use Rattle.std.specs.Option.{option_copied}
use Rattle.rdf_terms.specs.Statement.{Statement}
use Rattle.value_tests.specs.FirstTerms.{IsFirstWith}
use Rattle.value_tests.specs.RangePlaces.{IsOrderTarget, IsOrderTargetIn}
use Rattle.value_tests.proofs.FirstLaws.{first_start, first_next}
use Rattle.value_tests.proofs.order_literals.first_target.Goals as goal

pub triples-init : goal.triples-init
triples-init c = first_start IsOrderTarget

pub triples-preserved : goal.triples-preserved
triples-preserved c =
    subst (IsFirstWith (IsOrderTargetIn (take (c.triples.triple-index + 1) c.args.triples.now))) (sym c.first_of_two-first.ensures)
    (first_next IsOrderTarget c.args.triples.now c.triples.triple-index c.triple-item.result
    (option_copied c.triples.first) (option_copied c.order_target.result) c.triples-test.true c.triple-item.is c.triples.invariant c.order_target.ensures)

pub returns : goal.returns
returns c =
    subst (λ (ts : List Statement). IsFirstWith (IsOrderTargetIn ts) (option_copied c.triples.first))
    (take_all c.triples.triple-index c.args.triples.now c.triples-test.false) c.triples.invariant
