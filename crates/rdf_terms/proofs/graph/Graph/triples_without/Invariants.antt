use Rattle.std.proofs.Common.{◌≡◌, take, not}
use Rattle.std.specs.List.{filter}
use Rattle.rdf_terms.specs.Graph.{has}
use Rattle.rdf_terms.proofs.graph.Graph.triples_without.Given as goal

abbrev pub invariant-keeping : goal.invariant-keeping
invariant-keeping l = l.kept.items ≡ filter (λ t. not (has l.other t)) (take l.triple-index l.triple-items)
