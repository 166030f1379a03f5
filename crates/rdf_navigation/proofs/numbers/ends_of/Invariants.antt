use Rattle.std.proofs.Common.{◌≡◌, ◌∷◌, take}
use Rattle.std.specs.List.{flat_map}
use Rattle.rdf_terms.specs.declared.term.Term.TheVariants.{Iri}
use Rattle.rdf_navigation.specs.Numbers.{ends_by}
use Rattle.rdf_navigation.proofs.numbers.ends_of.Given as goal

abbrev pub invariant-triples : goal.invariant-triples
invariant-triples l = l.terms ≡ l.more ∷ flat_map (ends_by (Iri l.predicate)) (take l.triple-index l.triple-items)
