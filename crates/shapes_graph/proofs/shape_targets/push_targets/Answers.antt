use Rattle.std.proofs.Common.{List, [], ap, sym, ◌∙◌, ◌++◌, take, take_all, append_assoc, Option}
use Rattle.std.specs.Prelude.{filter_map, option_and_then}
use Rattle.std.specs.List.{cons_option}
use Rattle.rdf_terms.specs.Statement.{Statement}
use Rattle.rdf_terms.specs.Graph.{triples}
use Rattle.rdf_navigation.specs.Values.{same_term}
use Rattle.rdf_navigation.proofs.PropertyLaws.{filter_map_next}
use Rattle.shapes_graph.specs.declared.targets.Target.{Target}
use Rattle.shapes_profile.specs.Properties.{property_of}
use Rattle.shapes_graph.specs.Targets.{target_of}
use Rattle.shapes_graph.proofs.KeptLaws.{filter_map_where}
use Rattle.shapes_graph.proofs.shape_targets.push_targets.Goals as goal

abbrev own : Statement → Option Target
own t = option_and_then (target_of t.object) (property_of t.predicate)

pub triples-preserved : goal.triples-preserved
triples-preserved c =
    let items = c.triples_with-triple-items.result.now in
    let i = c.triples.triple-index in
    let before = c.args.targets.now in
    c.in_ok-push_some.ensures
    ∙ ap (λ (ts : List Target). ts ++ cons_option c.in_ok-target.target []) c.triples.invariant
    ∙ ap (λ (o : Option Target). (before ++ filter_map own (take i items)) ++ cons_option o []) (c.in_ok-target.ensures ∙ ap own c.triple-item.is)
    ∙ append_assoc before (filter_map own (take i items)) _
    ∙ ap (λ (us : List Target). before ++ us) (sym (filter_map_next own items i c.triple-item.result c.triples-test.true))

pub returns : goal.returns
returns c =
    let x = c.args.shape.now in
    c.triples.invariant
    ∙ ap (λ (ts : List Statement). c.args.targets.now ++ filter_map own ts) (take_all c.triples.triple-index c.triples_with-triple-items.result.now c.triples-test.false ∙ c.triples_with-triple-items.ensures)
    ∙ ap (λ (us : List Target). c.args.targets.now ++ us) (sym (filter_map_where (λ (t : Statement). same_term t.subject x) own (triples c.args.graph.now)))
