use Rattle.std.proofs.Common.{◌≡◌, ◌++◌, take}
use Rattle.std.specs.Prelude.{filter_map, option_map}
use Rattle.rdf_terms.specs.declared.term.Term.{Term}
use Rattle.property_paths.specs.Paths.{path_node}
use Rattle.shapes_graph.specs.PathForms.{number_among, numbered, class_paths}
use Rattle.shapes_graph.proofs.path_table.path_forms.Given as goal

abbrev pub invariant-nodes : goal.invariant-nodes
invariant-nodes l =
    l.forms ≡ class_paths ++ filter_map (λ (x : Term). option_map (numbered (number_among l.nodes)) (path_node l.shapes x)) (take l.node-index l.node-items)
