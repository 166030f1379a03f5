use Rattle.std.proofs.Common.{◌≡◌, ◌++◌, true, take, length}
use Rattle.std.specs.Prelude.{filter_map}
use Rattle.rdf_terms.specs.declared.term.Term.TheVariants.{Iri}
use Rattle.rdf_navigation.specs.Values.{same_term}
use Rattle.atom_parts.specs.CandidateLists.{number_there}
use Rattle.atom_parts.specs.PartsTable.{triple_parts}
use Rattle.atom_parts.proofs.candidate_lists.push_to.Given as goal

abbrev pub invariant-places : goal.invariant-places
invariant-places l = l.list ≡ l.fn.list ++ triple_parts (filter_map (number_there l.triples (λ t. same_term t.predicate (Iri l.predicate)) (length l.before)) (take l.place-index l.place-items)) true
