use Rattle.std.proofs.Common.{rules}
use Rattle.std.proofs.lemmas.Fn.{always_returns_same}
use Rattle.rdf_terms.specs.declared.term.Term.TheVariants.{Iri}
use Rattle.rdf_terms.specs.Statement.{Statement, statement_cmp}
use Rattle.repair_problem.proofs.CandidateLaws.{searched}
use Rattle.repair_problem.proofs.places.search_terms.Goals as goal

pub returns-clause-found : goal.returns-clause-found
returns-clause-found c =
    let q : Statement = record { subject = c.args.subject.now; predicate = Iri c.args.predicate.now; object = c.args.object.now } in
    (searched c.args.graph.now c.as_slice.result.now q c.binary_search_by.result c.as_slice.ensures c.binary_search_by.ensures.bound (c.binary_search_by.ensures.position (λ y. statement_cmp y q) (always_returns_same _ _ _ (λ a r f k. search rules)))).0

pub returns-clause-absent : goal.returns-clause-absent
returns-clause-absent c =
    let q : Statement = record { subject = c.args.subject.now; predicate = Iri c.args.predicate.now; object = c.args.object.now } in
    (searched c.args.graph.now c.as_slice.result.now q c.binary_search_by.result c.as_slice.ensures c.binary_search_by.ensures.bound (c.binary_search_by.ensures.position (λ y. statement_cmp y q) (always_returns_same _ _ _ (λ a r f k. search rules)))).1
