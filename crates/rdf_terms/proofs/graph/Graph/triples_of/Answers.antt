use Rattle.std.proofs.Common.{rules, subst, ap, sym, ◌∙◌, Contains}
use Rattle.std.specs.Ordering.{is_lt, is_le}
use Rattle.std.proofs.lemmas.List.Sorted.{IsPartitionPoint-from_clause}
use Rattle.rdf_terms.specs.declared.term.Term.TheVariants.{Iri}
use Rattle.rdf_terms.specs.Graph.{is_of}
use Rattle.rdf_terms.proofs.GraphLaws.{triples_rise}
use Rattle.rdf_terms.proofs.Keys.{key_cmp, keys_rise, tied_keys, triples_of_terms, triples_of_listed}
use Rattle.rdf_terms.proofs.Parts.{ends_ordered, part_is, below_parts, up_to_parts}
use Rattle.std.specs.List.{filter}
use Rattle.rdf_terms.proofs.graph.Graph.triples_of.Goals as goal

pub slice_bounds-result-count : goal.slice_bounds-result-count
slice_bounds-result-count c =
    let key = key_cmp c.args.subject.now (Iri c.args.predicate.now) in
    let ts = c.as_slice-triples.result.now in
    let rises = keys_rise ts c.args.subject.now (Iri c.args.predicate.now) (rw (← c.as_slice-triples.ensures) at (triples_rise c.args.self.now)) in
    let low = IsPartitionPoint-from_clause (λ y. is_lt (key y)) ts _ c.partition_point-first.ensures.partitioned (below_parts key ts rises) (λ a r f' k. search rules) in
    let high = IsPartitionPoint-from_clause (λ y. is_le (key y)) ts _ c.partition_point-after.ensures.partitioned (up_to_parts key ts rises) (λ a r f' k. search rules) in
    ends_ordered key ts _ _ c.partition_point-first.ensures.bound low high

pub slice_bounds-result-start : goal.slice_bounds-result-start
slice_bounds-result-start c =
    let key = key_cmp c.args.subject.now (Iri c.args.predicate.now) in
    let ts = c.as_slice-triples.result.now in
    let rises = keys_rise ts c.args.subject.now (Iri c.args.predicate.now) (rw (← c.as_slice-triples.ensures) at (triples_rise c.args.self.now)) in
    let low = IsPartitionPoint-from_clause (λ y. is_lt (key y)) ts _ c.partition_point-first.ensures.partitioned (below_parts key ts rises) (λ a r f' k. search rules) in
    let high = IsPartitionPoint-from_clause (λ y. is_le (key y)) ts _ c.partition_point-after.ensures.partitioned (up_to_parts key ts rises) (λ a r f' k. search rules) in
    let le = ends_ordered key ts _ _ c.partition_point-first.ensures.bound low high in
    search rules

pub returns-clause-value : goal.returns-clause-value
returns-clause-value c =
    let key = key_cmp c.args.subject.now (Iri c.args.predicate.now) in
    let ts = c.as_slice-triples.result.now in
    let rises = keys_rise ts c.args.subject.now (Iri c.args.predicate.now) (rw (← c.as_slice-triples.ensures) at (triples_rise c.args.self.now)) in
    let low = IsPartitionPoint-from_clause (λ y. is_lt (key y)) ts _ c.partition_point-first.ensures.partitioned (below_parts key ts rises) (λ a r f' k. search rules) in
    let high = IsPartitionPoint-from_clause (λ y. is_le (key y)) ts _ c.partition_point-after.ensures.partitioned (up_to_parts key ts rises) (λ a r f' k. search rules) in
    part_is key ts _ _ c.partition_point-first.ensures.bound low high ∙ tied_keys c.args.subject.now (Iri c.args.predicate.now) ts
    ∙ ap (filter (is_of c.args.subject.now (Iri c.args.predicate.now))) c.as_slice-triples.ensures

pub returns-clause-exact : goal.returns-clause-exact
returns-clause-exact c =
    let key = key_cmp c.args.subject.now (Iri c.args.predicate.now) in
    let ts = c.as_slice-triples.result.now in
    let rises = keys_rise ts c.args.subject.now (Iri c.args.predicate.now) (rw (← c.as_slice-triples.ensures) at (triples_rise c.args.self.now)) in
    let low = IsPartitionPoint-from_clause (λ y. is_lt (key y)) ts _ c.partition_point-first.ensures.partitioned (below_parts key ts rises) (λ a r f' k. search rules) in
    let high = IsPartitionPoint-from_clause (λ y. is_le (key y)) ts _ c.partition_point-after.ensures.partitioned (up_to_parts key ts rises) (λ a r f' k. search rules) in
    let is = part_is key ts _ _ c.partition_point-first.ensures.bound low high ∙ tied_keys c.args.subject.now (Iri c.args.predicate.now) ts
    ∙ ap (filter (is_of c.args.subject.now (Iri c.args.predicate.now))) c.as_slice-triples.ensures in
    λ t. (λ h. triples_of_terms c.args.self.now c.args.subject.now (Iri c.args.predicate.now) t (subst (λ us. Contains us t) is h), λ h. subst (λ us. Contains us t) (sym is) (triples_of_listed c.args.self.now c.args.subject.now (Iri c.args.predicate.now) t h.0 h.1 h.2))
