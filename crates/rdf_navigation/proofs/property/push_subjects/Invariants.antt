use Rattle.std.proofs.Common.{◌≡◌, ◌++◌, take}
use Rattle.std.specs.List.{filter_map}
use Rattle.rdf_terms.specs.declared.term.Term.TheVariants.{Iri}
use Rattle.rdf_navigation.proofs.Places.{subject_there}
use Rattle.rdf_navigation.proofs.property.push_subjects.Given as goal

abbrev pub invariant-places : goal.invariant-places
invariant-places l = l.terms ≡ l.fn.terms ++ filter_map (subject_there l.triples (Iri l.predicate)) (take l.place-index l.place-items)
