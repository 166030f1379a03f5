-- What a problem keeps beside its graphs. The invariant of a type alone cites it.
use Rattle.std.specs.Prelude.{◌≡◌}
use Rattle.rdf_terms.specs.Graph.{Graph}
use Rattle.rdf_terms.specs.Nodes.{Nodes}
use Rattle.repair_problem.specs.Repair.{Apart}
use Rattle.repair_problem.specs.Setting.{Setting, full, nodes}

-- the graph has all candidates, and these are the nodes
pub record AreKept (s : Setting) (graph : Graph) (numbering : Nodes) : Type 0 where
  pub apart : Apart s.present s.offers
  pub all_triples : graph ≡ full s
  pub all_nodes : numbering ≡ nodes s
