use Rattle.std.proofs.Common.{◌<◌}
use Rattle.rdf_terms.specs.Graph.{triples}
use Rattle.rdf_terms.specs.Members.{IsListOf}
use Rattle.rdf_terms.specs.declared.term.Term.TheVariants.{Iri}
use Rattle.path_eval.specs.Numbered.{terms_at, AreNumbers}
use Rattle.path_eval.specs.Links.{IsLinked}
use Rattle.path_eval.proofs.numbered.NumberedGraph.ends_along.Given as goal

abbrev pub invariant-places : goal.invariant-places
invariant-places l = record {
  within : AreNumbers l.self.nodes l.found.items;
  linked : IsListOf (IsLinked (triples l.self.graph) (Iri l.predicate) l.direction (λ i. i < l.place)) (terms_at l.self.nodes l.found.items);
}
