use Rattle.std.proofs.Common.{◌≡◌, ◌+◌, ◌<◌, length, Some, IfSome, option_map, sym, subst}
use Rattle.rdf_terms.specs.Graph.{triples}
use Rattle.repair_problem.specs.Repair.{Apart}
use Rattle.repair_problem.specs.Setting.{Setting, setting}
use Rattle.repair_problem.specs.Candidates.{candidate_number}
use Rattle.repair_problem.proofs.CandidateLaws.{found_first, found_second, candidate_exact_by}
use Rattle.repair_problem.proofs.problem.Problem.candidate_of.Goals as goal

pub returns-in-Some-clause-value : goal.returns-in-Some-clause-value
returns-in-Some-clause-value c =
    let v = c.self.inside in
    subst (λ (u : Setting). Some c.in-Some.place ≡ candidate_number u c.args.triple.now) c.self.view_is
    (found_first (setting v.shapes v.present v.offers) c.args.triple.now c.in-Some.place c.in-Some.ensures.value)

pub returns-in-Some-clause-exact : goal.returns-in-Some-clause-exact
returns-in-Some-clause-exact c =
    let v = c.self.inside in
    let apart = subst (λ (u : Setting). Apart u.present u.offers) c.self.view_is c.self.invariant.apart in
    candidate_exact_by c.args.self.now apart c.args.triple.now (Some c.in-Some.place)
    (subst (λ (u : Setting). Some c.in-Some.place ≡ candidate_number u c.args.triple.now) c.self.view_is
    (found_first (setting v.shapes v.present v.offers) c.args.triple.now c.in-Some.place c.in-Some.ensures.value))

pub offer_number-requires : goal.offer_number-requires
offer_number-requires c = subst (λ (u : Setting). IfSome c.place_of_triple-in-None.result (λ i. i < length (triples u.offers))) c.self.view_is c.place_of_triple-in-None.ensures.within

pub returns-in-None-clause-value : goal.returns-in-None-clause-value
returns-in-None-clause-value c =
    let v = c.self.inside in
    let o = c.place_of_triple-in-None.result in
    let r = c.offer_number.result in
    let number = subst (λ (u : Setting). r ≡ option_map (λ i. length (triples u.present) + i) o) (sym c.self.view_is) c.offer_number.ensures in
    subst (λ (u : Setting). r ≡ candidate_number u c.args.triple.now) c.self.view_is
    (found_second (setting v.shapes v.present v.offers) c.args.triple.now o r c.in-None.ensures.value c.place_of_triple-in-None.ensures.value number)

pub returns-in-None-clause-exact : goal.returns-in-None-clause-exact
returns-in-None-clause-exact c =
    let v = c.self.inside in
    let o = c.place_of_triple-in-None.result in
    let r = c.offer_number.result in
    let apart = subst (λ (u : Setting). Apart u.present u.offers) c.self.view_is c.self.invariant.apart in
    let number = subst (λ (u : Setting). r ≡ option_map (λ i. length (triples u.present) + i) o) (sym c.self.view_is) c.offer_number.ensures in
    candidate_exact_by c.args.self.now apart c.args.triple.now r
    (subst (λ (u : Setting). r ≡ candidate_number u c.args.triple.now) c.self.view_is
    (found_second (setting v.shapes v.present v.offers) c.args.triple.now o r c.in-None.ensures.value c.place_of_triple-in-None.ensures.value number))
