use Rattle.std.proofs.Common.{sym, ap, ◌∙◌}
use Rattle.rdf_terms.specs.Statement.{Statement}
use Rattle.value_tests.proofs.OrderLaws.{target_first}
use Rattle.value_tests.proofs.order_literals.order_target.Goals as goal

pub returns-then-is_out_of_reach : goal.returns-then-is_out_of_reach
returns-then-is_out_of_reach c =
    target_first c.args.triple.now c.triple.inside.predicate c.triple.inside.object
    (sym (ap (λ (t : Statement). t.predicate) c.triple.view_is)) (sym (ap (λ (t : Statement). t.object) c.triple.view_is))
    (sym c.is_named.ensures ∙ c.if-is_named.true) (sym c.is_out_of_reach.ensures ∙ c.if-is_out_of_reach.true)
