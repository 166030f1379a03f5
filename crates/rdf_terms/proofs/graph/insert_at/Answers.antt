use Rattle.std.proofs.Common.{◌≡◌, ◌<◌, ◌≤◌, ap, ◌∙◌, subst, arith, rules, length, map, get_or, true, is_ok}
use Rattle.std.specs.Ordering.{is_lt}
use Rattle.std.specs.List.{insert}
use Rattle.std.proofs.lemmas.List.{length-map, take_at}
use Rattle.std.proofs.lemmas.List.Sorted.{IsPartitionPoint-from_clause}
use Rattle.std.proofs.lemmas.List.Elements.{Contains-get_or}
use Rattle.rdf_terms.specs.ObjectOrder.{place_cmp, moved_place}
use Rattle.rdf_terms.proofs.ObjectPlaces.{moved_parts, placed}
use Rattle.rdf_terms.proofs.graph.insert_at.Goals as goal

pub move_places-requires : goal.move_places-requires
move_places-requires c = λ k d lt.
    let ps = c.args.by_object.now.items in
    let e : c.as_mut_slice.result.now ≡ ps = c.as_mut_slice.ensures.value ∙ c.reserve-2.ensures.items in
    let within : k < length ps = subst (λ us. k < length us) e lt in
    let below = (c.requires.order.all (get_or ps k d)).0 (Contains-get_or ps k d within) in
    let long = c.args.items.now.ok.0 in
    let room = c.in_ok-reserve.ensures.ok in
    let same = c.reserve.ensures.len in
    let small = c.reserve.new.self.small in
    let h = ap (λ us. get_or us k d) e in
    omega arith

pub returns-clause-order : goal.returns-clause-order
returns-clause-order c =
    let ts = c.args.items.now.items in
    let ps = c.args.by_object.now.items in
    let t = c.args.triple in
    let at = c.args.place in
    let ins : c.insert.new.self.items ≡ insert ts at t = search rules in
    let moved : c.move_places.new.places ≡ map (moved_place at) ps = c.move_places.ensures ∙ ap (map (moved_place at)) (c.as_mut_slice.ensures.value ∙ c.reserve-2.ensures.items) in
    let long : length c.move_places.new.places ≡ c.reserve-2.new.self.len = ap length c.move_places.ensures ∙ length-map _ (moved_place at) ∙ c.as_mut_slice.ensures.len in
    let all : c.deref.result.now ≡ map (moved_place at) ps = c.deref.ensures.value ∙ take_at c.move_places.new.places _ _ long ∙ moved in
    let listed : c.as_slice-triples.result.now ≡ insert ts at t = c.as_slice-triples.ensures.value ∙ ins in
    let within : at ≤ length ts = search rules in
    let parts = moved_parts t ts at within ps c.requires.order in
    let point = IsPartitionPoint-from_clause (λ i. is_lt (place_cmp c.as_slice-triples.result.now i at)) c.deref.result.now _ c.partition_point-at.ensures.partitioned (rw (listed, all) parts) (λ a r f' k. search rules) in
    let ok : is_ok c.insert-3.result ≡ true = search rules in
    let placed_at : c.insert-3.new.self.items ≡ insert (map (moved_place at) ps) c.partition_point-at.result at = (rw ok at c.insert-3.ensures.items) ∙ ap (λ us. insert us c.partition_point-at.result at) (take_at c.move_places.new.places _ _ long ∙ moved) in
    rw (ins, placed_at) (placed t ts at within ps c.requires.order c.partition_point-at.result (rw (listed, all) at point) (subst (λ us. c.partition_point-at.result ≤ length us) all c.partition_point-at.ensures.bound))
