use Rattle.std.proofs.Common.{rules, subst, ap, sym, ◌∙◌}
use Rattle.std.specs.Ordering.{is_lt, is_le, is_eq}
use Rattle.std.specs.List.{filter}
use Rattle.std.proofs.lemmas.List.Sorted.{IsPartitionPoint-from_clause}
use Rattle.rdf_terms.specs.Statement.{statement_cmp}
use Rattle.rdf_terms.specs.Graph.{triples, ArePlacesOfObject}
use Rattle.rdf_terms.specs.ObjectOrder.{IsObjectOrder}
use Rattle.rdf_terms.proofs.ObjectPlaces.{sought_at, sought_at_rise, sought_places}
use Rattle.rdf_terms.proofs.Parts.{ends_ordered, part_is, below_parts, up_to_parts}
use Rattle.rdf_terms.proofs.Sets.{items-of_rising}
use Rattle.rdf_terms.proofs.graph.Graph.places_of_object.Goals as goal

pub slice_bounds-result-count : goal.slice_bounds-result-count
slice_bounds-result-count c =
    let ts = c.as_slice-triples.result.now in
    let ps = c.as_slice-places.result.now in
    let order = subst (λ us. IsObjectOrder us ps) (sym c.as_slice-triples.ensures.value) (subst (IsObjectOrder c.self.inside.items.items) (sym c.as_slice-places.ensures.value) c.self.invariant.1) in
    let key = sought_at ts c.hash_term-hash.result c.args.object.now in
    let rises = sought_at_rise ts ps c.args.object.now c.hash_term-hash.result c.hash_term-hash.ensures order.rises in
    let low = IsPartitionPoint-from_clause (λ i. is_lt (key i)) ps _ c.partition_point-first.ensures.partitioned (below_parts key ps rises) (λ a r f' k. search rules) in
    let high = IsPartitionPoint-from_clause (λ i. is_le (key i)) ps _ c.partition_point-after.ensures.partitioned (up_to_parts key ps rises) (λ a r f' k. search rules) in
    ends_ordered key ps _ _ c.partition_point-first.ensures.bound low high

pub slice_bounds-result-start : goal.slice_bounds-result-start
slice_bounds-result-start c =
    let ts = c.as_slice-triples.result.now in
    let ps = c.as_slice-places.result.now in
    let order = subst (λ us. IsObjectOrder us ps) (sym c.as_slice-triples.ensures.value) (subst (IsObjectOrder c.self.inside.items.items) (sym c.as_slice-places.ensures.value) c.self.invariant.1) in
    let key = sought_at ts c.hash_term-hash.result c.args.object.now in
    let rises = sought_at_rise ts ps c.args.object.now c.hash_term-hash.result c.hash_term-hash.ensures order.rises in
    let low = IsPartitionPoint-from_clause (λ i. is_lt (key i)) ps _ c.partition_point-first.ensures.partitioned (below_parts key ps rises) (λ a r f' k. search rules) in
    let high = IsPartitionPoint-from_clause (λ i. is_le (key i)) ps _ c.partition_point-after.ensures.partitioned (up_to_parts key ps rises) (λ a r f' k. search rules) in
    let le = ends_ordered key ps _ _ c.partition_point-first.ensures.bound low high in
    search rules

pub returns : goal.returns
returns c =
    let ts = c.as_slice-triples.result.now in
    let ps = c.as_slice-places.result.now in
    let order = subst (λ us. IsObjectOrder us ps) (sym c.as_slice-triples.ensures.value) (subst (IsObjectOrder c.self.inside.items.items) (sym c.as_slice-places.ensures.value) c.self.invariant.1) in
    let key = sought_at ts c.hash_term-hash.result c.args.object.now in
    let rises = sought_at_rise ts ps c.args.object.now c.hash_term-hash.result c.hash_term-hash.ensures order.rises in
    let low = IsPartitionPoint-from_clause (λ i. is_lt (key i)) ps _ c.partition_point-first.ensures.partitioned (below_parts key ps rises) (λ a r f' k. search rules) in
    let high = IsPartitionPoint-from_clause (λ i. is_le (key i)) ps _ c.partition_point-after.ensures.partitioned (up_to_parts key ps rises) (λ a r f' k. search rules) in
    let shown = c.as_slice-triples.ensures.value ∙ sym (items-of_rising statement_cmp c.self.inside.items.items c.self.invariant.0) ∙ ap triples c.self.view_is in
    subst (ArePlacesOfObject (triples c.args.self.now) c.args.object.now) (sym (part_is key ps _ _ c.partition_point-first.ensures.bound low high))
    (subst (λ us. ArePlacesOfObject us c.args.object.now (filter (λ i. is_eq (key i)) ps)) shown (sought_places ts ps c.args.object.now c.hash_term-hash.result c.hash_term-hash.ensures order))
