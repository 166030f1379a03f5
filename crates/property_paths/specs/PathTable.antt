-- What contracts say of the tables of path nodes. Of it public contracts cite `listed_depth` alone.
use Rattle.std.specs.Prelude.{◌≡◌, ℕ, min, Bool, false, List, length, nat_le, slice_get, Option, Some, None, option_map}
use Rattle.std.specs.Prelude.{if◌then◌else◌}
use Rattle.std.specs.Option.{option_map_or}
use Rattle.rdf_terms.specs.Graph.{Graph}
use Rattle.rdf_terms.specs.declared.term.Term.{Term}
use Rattle.rdf_terms.specs.Nodes.{Nodes, terms, has_term}
use Rattle.digraph.specs.Digraph.{Digraph, look}
use Rattle.rdf_navigation.specs.Lists.{blank_members}
use Rattle.rdf_navigation.specs.Numbers.{IsNumbered}
use Rattle.property_paths.specs.declared.paths.PathNode.{PathNode}
use Rattle.property_paths.specs.Paths.{triples_about}
use Rattle.property_paths.specs.Paths.{node_of_triples, path_parts, graph_nodes, path_depth}

-- a list of two members or more whose cells are blank nodes
abbrev pub is_pair : Graph → Term → Bool
is_pair s x = option_map_or (λ ms. nat_le 2 (length ms)) (blank_members s x) false

-- by the triples that it is the subject of
abbrev pub node_of_subject : Graph → Term → Option PathNode
node_of_subject s x = node_of_triples s (triples_about s x)

-- the depth as a path of a node of the graph; None of any other node
abbrev pub listed_depth : Graph → Term → Option ℕ
listed_depth s x = if has_term (graph_nodes s) x then path_depth s x else None

-- of each node of the graph its depth as a path, where 33 stands for 33 and more
pub record ArePathDepths (s : Graph) (nodes : Nodes) (depths : List (Option ℕ)) : Type 0 where
  pub all : nodes ≡ graph_nodes s
  pub size : length depths ≡ length (terms nodes)
  pub listed : (i : ℕ) (x : Term) → slice_get (terms nodes) i ≡ Some x
      → look depths i ≡ option_map (min 33) (path_depth s x)

-- the parts of the nodes of the graph, as a directed graph over their numbers
pub record ArePathParts (s : Graph) (nodes : Nodes) (parts : Digraph) : Type 0 where
  pub size : length parts ≡ length (terms nodes)
  pub numbered : IsNumbered (path_parts s) nodes parts
