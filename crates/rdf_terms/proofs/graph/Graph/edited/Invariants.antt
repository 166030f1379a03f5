use Rattle.std.proofs.Common.{◌≡◌, ◌++◌, take}
use Rattle.rdf_terms.specs.Graph.{triples, without}
use Rattle.rdf_terms.proofs.graph.Graph.edited.Given as goal

abbrev pub invariant-adding : goal.invariant-adding
invariant-adding l = l.items.items ≡ triples (without l.self l.delete) ++ take l.triple-index l.triple-items
