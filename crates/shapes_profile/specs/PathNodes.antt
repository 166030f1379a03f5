-- The nodes that the paths of shapes are made of.
use Rattle.std.specs.Prelude.{flat_map}
use Rattle.rdf_terms.specs.Graph.{Graph}
use Rattle.rdf_terms.specs.Nodes.{Nodes, nodes_of_list}
use Rattle.rdf_terms.specs.Vocab.Sh as sh
use Rattle.rdf_navigation.specs.Values.{values}
use Rattle.property_paths.specs.Paths.{node_count, nodes_in}
use Rattle.shapes_profile.specs.Shapes.{shape_terms}

-- the path nodes and the list cells of sequences that the sh:path values of shapes are made of
unfoldable pub path_nodes : Graph → Nodes
path_nodes s =
    nodes_of_list (flat_map (λ x. flat_map (λ p. nodes_in (node_count s) s p) (values s x sh.path)) (shape_terms s))
