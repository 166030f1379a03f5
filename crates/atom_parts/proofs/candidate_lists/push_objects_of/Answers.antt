use Rattle.std.proofs.Common.{◌++◌, true, length, ap, ◌∙◌}
use Rattle.std.proofs.lemmas.Result.{on_ok_weaker}
use Rattle.rdf_terms.specs.declared.term.Term.TheVariants.{Iri}
use Rattle.rdf_terms.specs.Graph.{Graph, triples}
use Rattle.atom_parts.specs.CandidateLists.{places_from, is_to}
use Rattle.atom_parts.specs.PartsTable.{triple_parts}
use Rattle.atom_parts.proofs.CandidateNumbers.{candidates_split}
use Rattle.atom_parts.proofs.candidate_lists.push_objects_of.Goals as goal

pub returns : goal.returns
returns c =
    let s = c.args.problem.now in
    let test = is_to c.args.object.now (Iri c.args.predicate.now) in
    let old = c.args.list.now in
    let middle = c.push_to.new.list in
    let first = c.in_ok-push_to.ensures ∙ ap (λ (g : Graph). old ++ triple_parts (places_from 0 test (triples g)) true) c.present-present.ensures in
    let before = ap length c.as_slice.ensures ∙ ap (λ (g : Graph). length (triples g)) c.present-present.ensures in
    let second =
    ap (λ n. middle ++ triple_parts (places_from n test (triples c.offers.result.now)) true) before
    ∙ ap (λ (g : Graph). middle ++ triple_parts (places_from (length (triples s.present)) test (triples g)) true) c.offers.ensures.value in
    on_ok_weaker c.push_to-2.result (λ e. candidates_split s test true old middle c.push_to-2.new.list first (e ∙ second)) c.push_to-2.ensures
