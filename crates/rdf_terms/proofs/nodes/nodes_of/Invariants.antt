use Rattle.std.proofs.Common.{◌≡◌, ◌++◌, take}
use Rattle.rdf_terms.specs.Graph.{triples}
use Rattle.rdf_terms.specs.Nodes.{ends}
use Rattle.rdf_terms.proofs.nodes.nodes_of.Given as goal

abbrev pub invariant-copying : goal.invariant-copying
invariant-copying l = l.terms ≡ (ends (triples l.fn.first) ++ ends (triples l.fn.second)) ++ take l.term-index l.more
