use Rattle.std.proofs.Common.{◌≡◌, ◌<◌, ◌↔◌, ℕ, List, length, IsTrue, All, Contains, map, drop, slice_index, get_or, sym, ap, ◌∙◌, subst, arith}
use Rattle.std.proofs.lemmas.List.{take_at, length-map}
use Rattle.rdf_terms.specs.declared.term.Term.{Term}
use Rattle.rdf_terms.specs.Nodes.{has_term}
use Rattle.path_eval.specs.Numbered.{terms_at, AreNumbers}
use Rattle.path_eval.specs.TermNumbers.{terms_in}
use Rattle.path_eval.proofs.RankLaws.{ranks_inside, ranked_numbers, looked_within, ranked_same}
use Rattle.path_eval.proofs.term_numbers.number_terms.Goals as goal

pub look_up-requires : goal.look_up-requires
look_up-requires c =
    let n = c.in_ok-nodes.nodes in
    let ts = terms_in c.args.list.now in
    let others = terms_in c.in_ok-distinct.distinct.items in
    let ranks = c.in_ok-distinct.ranks.items in
    let numbers = c.in_ok-numbers.numbers.items in
    let all : terms_at n numbers ≡ others = c.in_ok-numbers.ensures.numbers ∙ ap terms_in c.as_slice-2.ensures.value in
    let inside : All (λ r. r < length numbers) ranks = ranks_inside n ts others ranks numbers c.in_ok-distinct.ensures.ranked all in
    subst (λ (table : List ℕ). All (λ r. r < length table) c.as_mut_slice.result.now) (sym c.as_slice-3.ensures.value)
    (subst (λ (rs : List ℕ). All (λ r. r < length numbers) rs) (sym c.as_mut_slice.ensures.value) inside)

pub returns : goal.returns
returns c =
    let n = c.in_ok-nodes.nodes in
    let ts = terms_in c.args.list.now in
    let others = terms_in c.in_ok-distinct.distinct.items in
    let ranks = c.in_ok-distinct.ranks in
    let numbers = c.in_ok-numbers.numbers.items in
    let new = c.look_up.new.places in
    let copied : c.in_ok-copies.field-0 ≡ others = c.in_ok-copies.ensures ∙ ap terms_in c.as_slice.ensures.value in
    let all : terms_at n numbers ≡ others = c.in_ok-numbers.ensures.numbers ∙ ap terms_in c.as_slice-2.ensures.value in
    let is : new ≡ map (λ r. get_or numbers r 0) ranks.items =
    c.look_up.ensures ∙ (ap (λ (table : List ℕ). map (slice_index table) c.as_mut_slice.result.now) c.as_slice-3.ensures.value ∙ ap (map (slice_index numbers)) c.as_mut_slice.ensures.value) in
    let size = ranks.ok.0 in
    let many = ap length is ∙ length-map ranks.items (λ r. get_or numbers r 0) in
    let kept = take_at new (drop (length new) ranks.items) ranks.len (omega (arith, many, size)) in
    record {
      nodes = λ t.
          let same = ranked_same ts others ranks.items c.in_ok-distinct.ensures.ranked c.in_ok-distinct.ensures.listed t in
          let exact : IsTrue (has_term n t) ↔ Contains others t = subst (λ (us : List Term). IsTrue (has_term n t) ↔ Contains us t) copied (c.in_ok-nodes.ensures.exact t) in
          (λ h. same.0 (exact.0 h), λ h. exact.1 (same.1 h));
      numbers = ap (terms_at n) (kept ∙ is) ∙ ranked_numbers n ts others ranks.items numbers c.in_ok-distinct.ensures.ranked all;
      within = subst (AreNumbers n) (sym (kept ∙ is)) (looked_within n ts others ranks.items numbers c.in_ok-distinct.ensures.ranked all c.in_ok-numbers.ensures.within);
    }
