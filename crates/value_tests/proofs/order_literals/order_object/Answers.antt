use Rattle.std.proofs.Common.{◌⊎◌, sym, ap, subst, ◌∙◌}
use Rattle.rdf_terms.specs.Statement.{Statement, is_node}
use Rattle.shapes_graph.specs.OrderLiterals.{ComparesAll}
use Rattle.value_tests.specs.RangePlaces.{ComparesValuesOfTerm}
use Rattle.value_tests.proofs.OrderLaws.{object_first}
use Rattle.value_tests.proofs.order_literals.order_object.Goals as goal

pub returns-then-is_compared : goal.returns-then-is_compared
returns-then-is_compared c =
    let s = c.args.shapes.now in
    object_first s c.args.triple.now (sym (ap (λ (t : Statement). is_node t.subject) c.triple.view_is) ∙ c.triple.invariant.0)
    c.triple.inside.object (sym (ap (λ (t : Statement). t.object) c.triple.view_is)) (sym c.is_out_of_reach.ensures ∙ c.if-is_out_of_reach.true)
    (subst (λ (t : Statement). ComparesAll s ⊎ ComparesValuesOfTerm s t.predicate) c.triple.view_is (c.is_compared.ensures.0 c.if-is_compared.true))
