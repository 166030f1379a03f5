use Rattle.std.proofs.Common.{◌≡◌, ◌<◌, ◌↔◌, ◌++◌, ℕ, List, length, IsTrue, All, Contains, map, take, drop, slice_index, get_or, sym, ap, ◌∙◌, subst, arith}
use Rattle.std.proofs.lemmas.List.{take_at, length-map, length-append}
use denote.Ref.{Bor}
use Rattle.rdf_terms.specs.declared.term.Term.{Term}
use Rattle.rdf_terms.specs.Statement.{Statement}
use Rattle.rdf_terms.specs.Graph.{triples}
use Rattle.rdf_terms.specs.Nodes.{has_term}
use Rattle.rdf_navigation.specs.Numbers.{term_at}
use Rattle.path_eval.specs.Numbered.{terms_at, AreNumbers}
use Rattle.path_eval.specs.TermNumbers.{terms_in, AreRanked, subjects_of, objects_of}
use Rattle.path_eval.proofs.RankLaws.{ranks_inside, ranked_numbers, looked_within, ranked_more, ends_nodes, middle_terms, middle_within}
use Rattle.path_eval.proofs.numbered.number_ends.Goals as goal

pub look_up-requires : goal.look_up-requires
look_up-requires c =
    let g = c.args.graph.now in
    let n = c.in_ok-nodes.nodes in
    let ts = subjects_of (triples g) in
    let leads = terms_in c.in_ok-ends.ends.items in
    let others = (leads ++ objects_of (triples g)) ++ c.args.more.now in
    let ranks = c.in_ok-ends.subjects.items in
    let numbers = c.in_ok-nodes.numbers.items in
    let ends : terms_in c.as_slice-2.result.now ≡ others = ap terms_in c.as_slice-2.ensures.value ∙ (c.in_ok-push_more.ensures ∙ ap (λ (us : List Term). us ++ c.args.more.now) c.in_ok-push_objects.ensures) in
    let all : terms_at n numbers ≡ others = c.in_ok-nodes.ensures.numbers ∙ ends in
    let ranked : AreRanked ts others ranks = ranked_more ts (leads ++ objects_of (triples g)) c.args.more.now ranks (ranked_more ts leads (objects_of (triples g)) ranks c.in_ok-ends.ensures.ranked) in
    subst (λ (table : List ℕ). All (λ r. r < length table) c.as_mut_slice.result.now) (sym c.as_slice-3.ensures.value)
    (subst (λ (rs : List ℕ). All (λ r. r < length numbers) rs) (sym c.as_mut_slice.ensures.value) (ranks_inside n ts others ranks numbers ranked all))

pub split_off-requires : goal.split_off-requires
split_off-requires c =
    let g = c.args.graph.now in
    let n = c.in_ok-nodes.nodes in
    let os = objects_of (triples g) in
    let leads = terms_in c.in_ok-ends.ends.items in
    let numbers = c.in_ok-nodes.numbers.items in
    let ends : terms_in c.as_slice-2.result.now ≡ (leads ++ os) ++ c.args.more.now = ap terms_in c.as_slice-2.ensures.value ∙ (c.in_ok-push_more.ensures ∙ ap (λ (us : List Term). us ++ c.args.more.now) c.in_ok-push_objects.ensures) in
    let many = length-map numbers (term_at n) in
    let all = ap length (c.in_ok-nodes.ensures.numbers ∙ ends) in
    let front = length-append (leads ++ os) c.args.more.now in
    let first = length-append leads os in
    let lead_size = c.in_ok-ends.ends.ok.0 in
    let lead_map = length-map c.in_ok-ends.ends.items (λ (t : Bor Term). t.now) in
    let size = c.in_ok-nodes.numbers.ok.0 in
    omega (arith, many, all, front, first, lead_size, lead_map, size, c.len-leads.ensures)

pub returns-clause-nodes : goal.returns-clause-nodes
returns-clause-nodes c =
    let g = c.args.graph.now in
    let n = c.in_ok-nodes.nodes in
    let leads = terms_in c.in_ok-ends.ends.items in
    let others = (leads ++ objects_of (triples g)) ++ c.args.more.now in
    let ends : terms_in c.as_slice-2.result.now ≡ others = ap terms_in c.as_slice-2.ensures.value ∙ (c.in_ok-push_more.ensures ∙ ap (λ (us : List Term). us ++ c.args.more.now) c.in_ok-push_objects.ensures) in
    ends_nodes g c.args.more.now leads c.in_ok-ends.subjects.items n c.in_ok-ends.ensures.ranked c.in_ok-ends.ensures.listed
    (λ t. subst (λ (us : List Term). IsTrue (has_term n t) ↔ Contains us t) ends (c.in_ok-nodes.ensures.nodes t))

pub returns-clause-numbers : goal.returns-clause-numbers
returns-clause-numbers c =
    let g = c.args.graph.now in
    let n = c.in_ok-nodes.nodes in
    let ts = subjects_of (triples g) in
    let os = objects_of (triples g) in
    let leads = terms_in c.in_ok-ends.ends.items in
    let others = (leads ++ os) ++ c.args.more.now in
    let ranks = c.in_ok-ends.subjects in
    let numbers = c.in_ok-nodes.numbers.items in
    let ends : terms_in c.as_slice-2.result.now ≡ others = ap terms_in c.as_slice-2.ensures.value ∙ (c.in_ok-push_more.ensures ∙ ap (λ (us : List Term). us ++ c.args.more.now) c.in_ok-push_objects.ensures) in
    let all : terms_at n numbers ≡ others = c.in_ok-nodes.ensures.numbers ∙ ends in
    let ranked : AreRanked ts others ranks.items = ranked_more ts (leads ++ os) c.args.more.now ranks.items (ranked_more ts leads os ranks.items c.in_ok-ends.ensures.ranked) in
    let new = c.look_up.new.places in
    let is : new ≡ map (λ r. get_or numbers r 0) ranks.items =
    c.look_up.ensures ∙ (ap (λ (table : List ℕ). map (slice_index table) c.as_mut_slice.result.now) c.as_slice-3.ensures.value ∙ ap (map (slice_index numbers)) c.as_mut_slice.ensures.value) in
    let size = ranks.ok.0 in
    let many = ap length is ∙ length-map ranks.items (λ r. get_or numbers r 0) in
    let kept = take_at new (drop (length new) ranks.items) ranks.len (omega (arith, many, size)) in
    let k = c.len-leads.result in
    let m = c.len.result in
    let part : c.truncate.new.self.items ≡ take m (drop k numbers) = c.truncate.ensures.items ∙ ap (take m) c.in_ok-objects.ensures.tail in
    let lead_size = c.in_ok-ends.ends.ok.0 in
    let lead_map = length-map c.in_ok-ends.ends.items (λ (t : Bor Term). t.now) in
    let object_map = length-map (triples g) (λ (t : Statement). t.object) in
    record {
      subject = ap (terms_at n) (kept ∙ is) ∙ ranked_numbers n ts others ranks.items numbers ranked all;
      object = ap (terms_at n) part ∙ middle_terms n numbers k m leads os c.args.more.now all (omega (arith, lead_map, lead_size, c.len-leads.ensures)) (omega (arith, object_map, c.len.ensures));
      subjects_within = subst (AreNumbers n) (sym (kept ∙ is)) (looked_within n ts others ranks.items numbers ranked all c.in_ok-nodes.ensures.within);
      objects_within = subst (AreNumbers n) (sym part) (middle_within n numbers k m c.in_ok-nodes.ensures.within);
    }
