use Rattle.std.proofs.Common.{◌++◌, true, ap, ◌∙◌}
use Rattle.std.specs.Prelude.{filter_map}
use Rattle.std.specs.List.{filter}
use Rattle.std.proofs.lemmas.Result.{on_ok_weaker}
use Rattle.rdf_terms.specs.declared.term.Term.TheVariants.{Iri}
use Rattle.rdf_terms.specs.Graph.{Graph, triples, is_of}
use Rattle.repair_problem.specs.Candidates.{candidate_number}
use Rattle.atom_parts.specs.PartsTable.{triple_parts}
use Rattle.atom_parts.proofs.CandidateNumbers.{candidates_split, present_numbers, offer_numbers}
use Rattle.atom_parts.proofs.candidate_lists.push_subjects_of.Goals as goal

pub returns : goal.returns
returns c =
    let s = c.args.problem.now in
    let test = is_of c.args.subject.now (Iri c.args.predicate.now) in
    let old = c.args.list.now in
    let middle = c.push_all.new.list in
    let olds = c.triples_of.ensures.value ∙ ap (λ (g : Graph). filter test (triples g)) c.present.ensures in
    let news = c.triples_of-2.ensures.value ∙ ap (λ (g : Graph). filter test (triples g)) c.offers.ensures.value in
    let first = c.in_ok-push_all.ensures ∙ (ap (λ us. old ++ triple_parts (filter_map (candidate_number s) us) true) olds ∙ ap (λ us. old ++ triple_parts us true) (present_numbers s test)) in
    let second = ap (λ us. middle ++ triple_parts (filter_map (candidate_number s) us) true) news ∙ ap (λ us. middle ++ triple_parts us true) (offer_numbers s test c.offers.ensures.apart) in
    on_ok_weaker c.push_all-2.result (λ e. candidates_split s test true old middle c.push_all-2.new.list first (e ∙ second)) c.push_all-2.ensures
