use Rattle.rdf_terms.specs.Graph.{triples}
use Rattle.path_eval.specs.TermNumbers.{terms_in, subjects_of}
use Rattle.path_eval.proofs.RankLaws.{IsRankedFront}
use Rattle.path_eval.proofs.numbered.lead_subjects.Given as goal

abbrev pub invariant-triples : goal.invariant-triples
invariant-triples l = IsRankedFront (subjects_of (triples l.graph)) l.triple-index (terms_in l.leads.items) l.places.items
