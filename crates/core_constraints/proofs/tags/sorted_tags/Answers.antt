use Rattle.std.proofs.Common.{◌≡◌, ◌≤◌, ℕ, List, [], ◌∷◌, ◌++◌, append-nil, map, length, take_all, get_or, Some, None, sym, ap, ◌∙◌, subst, arith}
use Rattle.std.specs.Ordering.{is_lt}
use Rattle.std.specs.List.{filter_map}
use Rattle.std.specs.List.Sorted.{IsPermutation}
use Rattle.std.proofs.lemmas.List.{length-map, map-append}
use Rattle.std.proofs.lemmas.List.Sorted.{IsPermutation-map}
use denote.Ref.{Bor}
use Rattle.rdf_terms.specs.Term.{text_cmp}
use Rattle.rdf_navigation.specs.Numbers.{term_at}
use Rattle.shapes_graph.specs.NodeTests.{tag_of}
use Rattle.path_eval.specs.Numbered.{terms_at}
use Rattle.path_eval.proofs.Found.{at_place}
use Rattle.core_constraints.proofs.TagLaws.{tags_more, sorted_map}
use Rattle.core_constraints.proofs.tags.sorted_tags.Goals as goal
use Rattle.core_constraints.proofs.tags.sorted_tags.Goals.{in-Some+in_ok-push, in_default}

abbrev text_of : Bor (List ℕ) → List ℕ
text_of t = t.now

pub term-requires : goal.term-requires
term-requires c = c.requires _ (at_place c.args.values.now c.values.value-index 0 c.values-test.true)

pub values-preserved : goal.values-preserved
values-preserved c =
    let n = c.args.input.now.graph.nodes in
    let is = c.args.values.now in
    let i = c.values.value-index in
    let old = map text_of c.values.tags.items in
    let own : c.term.result.now ≡ term_at n (get_or is i 0) = c.term.ensures in
    elim c.match-tag_of.branch [
      | in-Some+in_ok-push w ↦
          let e : c.match-tag_of.tags.items ≡ c.values.tags.items ++ w.in-Some.tag ∷ [] = (λ k. (w.tags-is k).items) ∙ w.in_ok-push.ensures.items in
          tags_more n is i old (map text_of c.match-tag_of.tags.items) (Some w.in-Some.tag.now) c.values-test.true (w.in-Some.ensures ∙ ap tag_of own) c.values.invariant
          (ap (map text_of) e ∙ map-append text_of c.values.tags.items (w.in-Some.tag ∷ []))
      | in_default w ↦
          let e : c.match-tag_of.tags.items ≡ c.values.tags.items = λ k. (w.tags-is k).items in
          tags_more n is i old (map text_of c.match-tag_of.tags.items) None c.values-test.true (w.in_default.ensures ∙ ap tag_of own) c.values.invariant (ap (map text_of) e ∙ sym (append-nil old))
    ]

pub returns-clause-sorted : goal.returns-clause-sorted
returns-clause-sorted c = sorted_map text_of (λ a b. is_lt (text_cmp a b)) c.sort_unstable.new.self.items c.sort_unstable.ensures.sorted

pub returns-clause-tags : goal.returns-clause-tags
returns-clause-tags c =
    let n = c.args.input.now.graph.nodes in
    let is = c.args.values.now in
    let i = c.values.value-index in
    let new = c.sort_unstable.new.self.items in
    let end : length (terms_at n is) ≤ i = let m = length-map is (term_at n) in omega (arith, m, c.values-test.false) in
    let all = c.values.invariant ∙ ap (filter_map tag_of) (take_all i (terms_at n is) end) in
    subst (λ (us : List (List ℕ)). IsPermutation us (map text_of new)) all (IsPermutation-map text_of c.values.tags.items new c.sort_unstable.ensures.permutation)
