-- Property paths in a shapes graph, and their depth (SHACL 2017, section 2.3.1).
use Rattle.std.specs.Prelude.{ℕ, zero, suc, List, [], ◌∷◌, length, filter, flat_map}
use Rattle.std.specs.Prelude.{Option, Some, None, option_map, unwrap_or, if◌then◌else◌}
use Rattle.rdf_terms.specs.Statement.{Statement}
use Rattle.rdf_terms.specs.Graph.{Graph, triples, empty}
use Rattle.rdf_terms.specs.Nodes.{Nodes, terms, nodes_of}
use Rattle.rdf_terms.specs.declared.term.Term.{Term}
use Rattle.rdf_terms.specs.declared.term.Term.TheVariants.{Iri, Blank, Literal}
use Rattle.rdf_terms.specs.Vocab.Rdf as rdf
use Rattle.rdf_terms.specs.Vocab.Sh as sh
use Rattle.digraph.specs.Depth.{depth_in}
use Rattle.rdf_navigation.specs.Values.{same_term, only_value}
use Rattle.rdf_navigation.specs.Lists.{members, blank_members}
use Rattle.property_paths.specs.declared.paths.PathNode.{PathNode}
use Rattle.property_paths.specs.declared.paths.PathNode.TheVariants as node

-- the triples with this subject, in order
abbrev pub triples_about : Graph → Term → List Statement
triples_about s x = filter (λ t. same_term t.subject x) (triples s)

-- the parts have to be paths themselves
abbrev pub parts_of : PathNode → List Term
parts_of (node.Predicate i) = []
parts_of (node.Inverse q) = q ∷ []
parts_of (node.Sequence a b) = a ∷ b ∷ []
parts_of (node.Alternative qs) = qs
parts_of (node.ZeroOrMore q) = q ∷ []
parts_of (node.OneOrMore q) = q ∷ []
parts_of (node.ZeroOrOne q) = q ∷ []

-- a list of at least two members
abbrev pub alternative_of : Option (List Term) → Option PathNode
alternative_of (Some (a ∷ b ∷ qs)) = Some (node.Alternative (a ∷ b ∷ qs))
alternative_of _ = None

-- by the predicate and the object of the one triple of a blank node
abbrev pub node_of_triple : Graph → Statement → Option PathNode
node_of_triple s t =
    if same_term t.predicate sh.alternative_path then alternative_of (members s t.object)
    else if same_term t.predicate sh.inverse_path then Some (node.Inverse t.object)
    else if same_term t.predicate sh.zero_or_more_path then Some (node.ZeroOrMore t.object)
    else if same_term t.predicate sh.one_or_more_path then Some (node.OneOrMore t.object)
    else if same_term t.predicate sh.zero_or_one_path then Some (node.ZeroOrOne t.object)
    else None

abbrev pub node_of_triples : Graph → List Statement → Option PathNode
node_of_triples s (t ∷ []) = node_of_triple s t
node_of_triples s _ = None

-- a list of at least two members: the first of them, and then the other one, or the next cell where more follow
abbrev pub sequence_of : Graph → Term → List Term → Option PathNode
sequence_of s x (a ∷ b ∷ []) = Some (node.Sequence a b)
sequence_of s x (a ∷ b ∷ c ∷ ms) = option_map (λ next. node.Sequence a next) (only_value s x rdf.rest)
sequence_of s x _ = None

-- a blank node is a list whose cells are blank nodes, or the subject of exactly one triple
abbrev pub node_of_blank : Graph → Term → Option (List Term) → Option PathNode
node_of_blank s x (Some ms) = sequence_of s x ms
node_of_blank s x None = node_of_triples s (triples_about s x)

-- an IRI is a predicate path, and a literal is no path
abbrev pub path_node : Graph → Term → Option PathNode
path_node s (Iri i) = Some (node.Predicate i)
path_node s (Blank c l) = node_of_blank s (Blank c l) (blank_members s (Blank c l))
path_node s (Literal l d t) = None

-- the parts of a path node; None where it is of none of the forms
abbrev pub path_parts : Graph → Term → Option (List Term)
path_parts s x = option_map parts_of (path_node s x)

abbrev pub graph_nodes : Graph → Nodes
graph_nodes s = nodes_of s empty []

-- no list of different nodes is longer
abbrev pub node_count : Graph → ℕ
node_count s = length (terms (graph_nodes s))

-- 0 of a predicate, else one more than that of the deepest part. A node that has none is no path: it isn't of
-- one of the forms, or some part is no path, or it contains itself
unfoldable pub path_depth : Graph → Term → Option ℕ
path_depth s x = depth_in (path_parts s) (node_count s) x

-- the node and all nodes that it is made of, nested less than k deep
abbrev pub nodes_in : ℕ → Graph → Term → List Term
nodes_in zero s x = []
nodes_in (suc k) s x = x ∷ flat_map (λ y. nodes_in k s y) (unwrap_or (path_parts s x) [])
