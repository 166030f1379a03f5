use Rattle.std.proofs.Common.{List, [], ap, sym, ◌∙◌, ◌++◌, take, take_all, append_assoc, Option}
use Rattle.std.specs.Prelude.{filter_map, option_map}
use Rattle.std.specs.List.{cons_option}
use Rattle.rdf_terms.specs.Graph.{Graph}
use Rattle.rdf_terms.specs.Nodes.{Nodes, terms}
use Rattle.rdf_terms.specs.declared.term.Term.{Term}
use Rattle.rdf_navigation.proofs.PropertyLaws.{filter_map_next}
use Rattle.property_paths.specs.Paths.{path_node}
use Rattle.shapes_graph.specs.declared.paths.PathForm.{PathForm}
use Rattle.shapes_graph.specs.PathForms.{number_among, path_number, numbered, class_paths, paths}
use Rattle.shapes_graph.proofs.path_table.path_forms.Goals as goal

abbrev form : Graph → Nodes → Term → Option PathForm
form s n x = option_map (numbered (number_among n)) (path_node s x)

pub nodes-preserved : goal.nodes-preserved
nodes-preserved c =
    let items = c.as_slice-node-items.result.now in
    let i = c.nodes.node-index in
    let own = form c.args.shapes.now c.args.nodes.now in
    c.in_ok-push_some.ensures
    ∙ ap (λ (fs : List PathForm). fs ++ cons_option c.in_ok-form.form []) c.nodes.invariant
    ∙ ap (λ (o : Option PathForm). (class_paths ++ filter_map own (take i items)) ++ cons_option o []) (c.in_ok-form.ensures ∙ ap own c.node-item.is)
    ∙ append_assoc class_paths (filter_map own (take i items)) _
    ∙ ap (λ (us : List PathForm). class_paths ++ us) (sym (filter_map_next own items i c.node-item.result c.nodes-test.true))

pub returns : goal.returns
unfolding paths path_number
returns c =
    let s = c.args.shapes.now in
    c.nodes.invariant
    ∙ ap (λ (ts : List Term). class_paths ++ filter_map (form s c.args.nodes.now) ts) (take_all c.nodes.node-index c.as_slice-node-items.result.now c.nodes-test.false ∙ c.as_slice-node-items.ensures.value)
    ∙ ap (λ (n : Nodes). class_paths ++ filter_map (form s n) (terms n)) c.requires
