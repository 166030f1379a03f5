use Rattle.std.proofs.Common.{sym, ap, ◌∙◌}
use Rattle.std.proofs.lemmas.Bool.{false≢true}
use Rattle.std.specs.Option.{option_copied}
use Rattle.rdf_terms.specs.Graph.{triples}
use Rattle.value_tests.specs.FirstTerms.{IsFirstWith}
use Rattle.value_tests.proofs.OrderLaws.{IsFar, first_all, first_some, far_some, far_none}
use Rattle.value_tests.proofs.order_literals.order_literal.Goals as goal

pub returns-then-all : goal.returns-then-all
returns-then-all c =
    let s = c.args.shapes.now in
    let g = c.args.present.now in
    let o = c.args.offered.now in
    let far : IsFirstWith (IsFar s g o) (option_copied c.first_of_two.result) =
    first_all s g o c.as_slice.result.now c.as_slice-2.result.now c.as_slice.ensures c.as_slice-2.ensures
    (option_copied c.first_object-present.result) (option_copied c.first_object-offered.result) (option_copied c.first_of_two-first.result)
    c.first_object-present.ensures c.first_object-offered.ensures c.first_of_two-first.ensures (c.compares_all-all.ensures.0 c.if-all.true)
    c.as_slice-then-all.result.now (c.as_slice-then-all.ensures ∙ ap triples c.triples.ensures.graph)
    (option_copied c.first_target.result) (option_copied c.first_of_two.result) c.first_target.ensures c.first_of_two.ensures in
    record { some = far_some s g o c.first_of_two.result far; none = far_none s g o c.first_of_two.result far }

pub returns-else-all : goal.returns-else-all
returns-else-all c =
    let s = c.args.shapes.now in
    let g = c.args.present.now in
    let o = c.args.offered.now in
    let far : IsFirstWith (IsFar s g o) (option_copied c.first_of_two-first.result) =
    first_some s g o c.as_slice.result.now c.as_slice-2.result.now c.as_slice.ensures c.as_slice-2.ensures
    (option_copied c.first_object-present.result) (option_copied c.first_object-offered.result) (option_copied c.first_of_two-first.result)
    c.first_object-present.ensures c.first_object-offered.ensures c.first_of_two-first.ensures
    (λ all. false≢true (sym c.if-all.false ∙ c.compares_all-all.ensures.1 all)) in
    record { some = far_some s g o c.first_of_two-first.result far; none = far_none s g o c.first_of_two-first.result far }
