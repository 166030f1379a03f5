use Rattle.std.proofs.Common.{Some, None}
use Rattle.std.proofs.lemmas.Option.{slice_get_within}
use Rattle.rdf_terms.specs.declared.term.Term.TheVariants.{Iri}
use Rattle.rdf_terms.specs.Statement.{Statement}
use Rattle.rdf_terms.specs.Graph.{triples}
use Rattle.repair_problem.proofs.CandidateLaws.{place_is}
use Rattle.repair_problem.proofs.places.place_of_terms.Goals as goal

pub returns-in-Ok-clause-value : goal.returns-in-Ok-clause-value
returns-in-Ok-clause-value c =
    let q : Statement = record { subject = c.args.subject.now; predicate = Iri c.args.predicate.now; object = c.args.object.now } in
    place_is c.args.graph.now q (Some c.in-Ok.place) c.in-Ok.ensures.found tt

pub returns-in-Ok-clause-within : goal.returns-in-Ok-clause-within
returns-in-Ok-clause-within c =
    let q : Statement = record { subject = c.args.subject.now; predicate = Iri c.args.predicate.now; object = c.args.object.now } in
    slice_get_within (triples c.args.graph.now) c.in-Ok.place q c.in-Ok.ensures.found

pub returns-in-Err-clause-value : goal.returns-in-Err-clause-value
returns-in-Err-clause-value c =
    let q : Statement = record { subject = c.args.subject.now; predicate = Iri c.args.predicate.now; object = c.args.object.now } in
    place_is c.args.graph.now q None tt c.in-Err.ensures.absent
