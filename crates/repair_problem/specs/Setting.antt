-- What a repair problem is about, and the numbers of its nodes.
use Rattle.std.specs.Prelude.{◌≡◌, ℕ, List, [], ◌∷◌, flat_map, Some, slice_get, if◌then◌else◌, refl}
use Rattle.std.specs.Coded.{Coded, coded×, code_by}
use Rattle.rdf_terms.specs.declared.term.Term.{Term}
use Rattle.rdf_terms.specs.Statement.{Statement}
use Rattle.rdf_terms.specs.Graph as graphs
use Rattle.rdf_terms.specs.Graph.{Graph, triples, empty, edited}
use Rattle.rdf_terms.specs.Nodes.{Nodes, terms, nodes_of}
use Rattle.rdf_terms.specs.Vocab.Sh as sh
use Rattle.rdf_navigation.specs.Values.{same_term}
use Rattle.rdf_navigation.specs.Numbers.{term_at}
use Rattle.repair_problem.specs.Repair.{Within}

-- a shapes graph, a data graph, and the offers: the offered triples that the data hasn't got
pub record Setting : Type 0 where
  pub shapes : Graph
  pub present : Graph
  pub offers : Graph

abbrev pub setting : Graph → Graph → Graph → Setting
setting shapes present offers = record { shapes = shapes; present = present; offers = offers }

-- how a proof tells two of them apart
abbrev pub code : Coded Setting
code =
    code_by (Graph × (Graph × Graph)) (coded× graphs.code (coded× graphs.code graphs.code))
    (λ s. (s.shapes, (s.present, s.offers)))
    (λ p. setting p.0 p.1.0 p.1.1) (λ _. refl)

-- the data with all offers
abbrev pub full : Setting → Graph
full s = edited s.present s.offers empty

-- the node that a triple names as a target, where it does (SHACL 2017, section 2.1.3.1)
abbrev pub target_node_of : Statement → List Term
target_node_of t = if same_term t.predicate sh.target_node then t.object ∷ [] else []

abbrev pub target_nodes : Graph → List Term
target_nodes s = flat_map target_node_of (triples s)

-- the subjects and objects of the data and the offers, and the nodes that targets name; the number of a node is its
-- place in their order
abbrev pub nodes : Setting → Nodes
nodes s = nodes_of s.present s.offers (target_nodes s.shapes)

-- the node of a number
abbrev pub node : Setting → ℕ → Term
node s x = term_at (nodes s) x

-- the number is of a node with P
abbrev pub OfNode : Setting → ℕ → (Term → Type 0) → Type 0
OfNode s x P = (a : Term) × (slice_get (terms (nodes s)) x ≡ Some a) × P a

-- an edited graph: each of its triples is in the data or an offer, so that it is the data without some of its triples
-- and with some of the offers
abbrev pub IsEdit : Setting → Graph → Type 0
IsEdit s g = Within g (full s)
