use Rattle.std.proofs.Common.{◌++◌, [], false, length, ap, ◌∙◌}
use Rattle.rdf_terms.specs.Graph.{Graph, triples}
use Rattle.atom_parts.specs.CandidateLists.{places_from, is_open}
use Rattle.atom_parts.specs.PartsTable.{triple_parts}
use Rattle.atom_parts.proofs.CandidateNumbers.{candidates_split}
use Rattle.atom_parts.proofs.candidate_lists.closed_list.Goals as goal

pub returns : goal.returns
returns c =
    let s = c.args.problem.now in
    let test = is_open c.args.allowed.now c.args.subject.now in
    let middle = c.push_open.new.list in
    let first =
    c.in_ok-push_open.ensures
    ∙ (ap (λ us. us ++ triple_parts (places_from 0 test (triples c.present-present.result.now)) false) c.new-list.ensures
    ∙ ap (λ (g : Graph). [] ++ triple_parts (places_from 0 test (triples g)) false) c.present-present.ensures) in
    let before = ap length c.as_slice.ensures ∙ ap (λ (g : Graph). length (triples g)) c.present-present.ensures in
    let second =
    c.in_ok-push_open-2.ensures
    ∙ (ap (λ n. middle ++ triple_parts (places_from n test (triples c.offers.result.now)) false) before
    ∙ ap (λ (g : Graph). middle ++ triple_parts (places_from (length (triples s.present)) test (triples g)) false) c.offers.ensures.value) in
    candidates_split s test false [] middle c.push_open-2.new.list first second
