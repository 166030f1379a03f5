use Rattle.std.proofs.Common.{◌∙◌, sym, ap, subst, rules, true, ◌≡◌, All}
use Rattle.std.specs.Ordering.{is_lt}
use Rattle.std.specs.List.Sorted.{IsPermutation}
use Rattle.std.proofs.lemmas.Fn.{always_returns_same}
use Rattle.std.proofs.lemmas.List.Sorted.{ranks_by, All-permutation, IsPermutation-map, IsPermutation-trans}
use Rattle.rdf_terms.specs.Set.{is_rising}
use Rattle.rdf_terms.specs.ObjectOrder.{place_cmp, HasHash, places_in}
use Rattle.rdf_terms.proofs.ObjectPlaces.{place_cmp_total, permuted_all, sorted_places}
use Rattle.rdf_terms.proofs.graph.object_order.Goals as goal

pub do_rise_by_object-requires : goal.do_rise_by_object-requires
do_rise_by_object-requires c =
    subst (All (HasHash c.args.triples.now)) (sym c.as_slice-2.ensures.value) (All-permutation (HasHash c.args.triples.now) _ _ c.sort_by_key.ensures.permutation c.in_ok-hashed.ensures.hashes)

pub returns-then-do_rise_by_object : goal.returns-then-do_rise_by_object
returns-then-do_rise_by_object c =
    let ts = c.args.triples.now in
    let same = c.in_ok-places.ensures ∙ ap places_in c.as_slice.ensures.value in
    let moved = subst (IsPermutation _) (sym same) (IsPermutation-map (λ at. at.place) _ _ c.sort_by_key.ensures.permutation) in
    record {
      rises = subst (λ is. is_rising (place_cmp ts) is ≡ true) (ap places_in c.as_slice-2.ensures.value ∙ sym same) (c.do_rise_by_object.ensures c.if-do_rise_by_object.true);
      all = permuted_all ts _ _ c.in_ok-hashed.ensures.places moved;
    }

pub returns : goal.returns
returns c =
    let ts = c.args.triples.now in
    let same = c.in_ok-places.ensures ∙ ap places_in c.as_slice.ensures.value in
    let moved = subst (IsPermutation _) (sym same) (IsPermutation-map (λ at. at.place) _ _ c.sort_by_key.ensures.permutation) in
    sorted_places ts _ _ c.in_ok-hashed.ensures.places (IsPermutation-trans _ _ _ moved c.sort_unstable_by.ensures.permutation)
    (c.sort_unstable_by.ensures.sorted (λ i j. is_lt (place_cmp ts i j)) (ranks_by (place_cmp_total ts) (λ i. i)) (always_returns_same _ _ _ (λ a r f' k. search rules)))
