use Rattle.std.proofs.Common.{◌≡◌, ◌+◌, ◌<◌, length, Some, IfSome, option_map, sym, subst}
use Rattle.rdf_terms.specs.declared.term.Term.TheVariants.{Iri}
use Rattle.rdf_terms.specs.Statement.{Statement}
use Rattle.rdf_terms.specs.Graph.{triples}
use Rattle.repair_problem.specs.Setting.{Setting, setting}
use Rattle.repair_problem.specs.Candidates.{candidate_number}
use Rattle.repair_problem.proofs.CandidateLaws.{found_first, found_second}
use Rattle.repair_problem.proofs.problem.Problem.candidate_of_terms.Goals as goal

pub returns-in-Some : goal.returns-in-Some
returns-in-Some c =
    let v = c.self.inside in
    let q : Statement = record { subject = c.args.subject.now; predicate = Iri c.args.predicate.now; object = c.args.object.now } in
    subst (λ (u : Setting). Some c.in-Some.place ≡ candidate_number u q) c.self.view_is
    (found_first (setting v.shapes v.present v.offers) q c.in-Some.place c.in-Some.ensures.value)

pub offer_number-requires : goal.offer_number-requires
offer_number-requires c = subst (λ (u : Setting). IfSome c.place_of_terms-in-None.result (λ i. i < length (triples u.offers))) c.self.view_is c.place_of_terms-in-None.ensures.within

pub returns-in-None : goal.returns-in-None
returns-in-None c =
    let v = c.self.inside in
    let q : Statement = record { subject = c.args.subject.now; predicate = Iri c.args.predicate.now; object = c.args.object.now } in
    let o = c.place_of_terms-in-None.result in
    let r = c.offer_number.result in
    let number = subst (λ (u : Setting). r ≡ option_map (λ i. length (triples u.present) + i) o) (sym c.self.view_is) c.offer_number.ensures in
    subst (λ (u : Setting). r ≡ candidate_number u q) c.self.view_is
    (found_second (setting v.shapes v.present v.offers) q o r c.in-None.ensures.value c.place_of_terms-in-None.ensures.value number)
