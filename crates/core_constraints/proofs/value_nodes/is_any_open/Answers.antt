use Rattle.std.proofs.Common.{sym, ◌∙◌}
use Rattle.path_eval.proofs.Found.{at_place}
use Rattle.core_constraints.proofs.OpenTriples.{none_open, open_found, closed_more, all_closed}
use Rattle.core_constraints.proofs.value_nodes.is_any_open.Goals as goal

pub triples_of-requires : goal.triples_of-requires
triples_of-requires c = c.requires _ (at_place c.args.values.now c.values.value-index 0 c.values-test.true)

pub values-init : goal.values-init
values-init c = none_open c.args.allowed.now c.args.input.now.graph.graph c.args.input.now.graph.nodes

pub values-preserved : goal.values-preserved
values-preserved c =
    closed_more c.args.allowed.now c.args.input.now.graph.graph c.args.input.now.graph.nodes c.args.values.now c.values.value-index c.values-test.true c.triples_of.result.now c.triples_of.ensures
    (sym c.has_open_triple.ensures ∙ c.if-has_open_triple.false) c.values.invariant

pub returns-then-has_open_triple : goal.returns-then-has_open_triple
returns-then-has_open_triple c =
    open_found c.args.allowed.now c.args.input.now.graph.graph c.args.input.now.graph.nodes c.args.values.now c.values.value-index c.values-test.true c.triples_of.result.now c.triples_of.ensures
    (sym c.has_open_triple.ensures ∙ c.if-has_open_triple.true)

pub returns : goal.returns
returns c = all_closed c.args.allowed.now c.args.input.now.graph.graph c.args.input.now.graph.nodes c.args.values.now c.values.value-index c.values-test.false c.values.invariant
