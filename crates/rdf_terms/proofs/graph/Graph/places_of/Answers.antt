use Rattle.std.proofs.Common.{rules, subst}
use Rattle.std.specs.Ordering.{is_lt, is_le}
use Rattle.std.proofs.lemmas.List.Sorted.{IsPartitionPoint-from_clause}
use Rattle.rdf_terms.specs.Term.{term_cmp}
use Rattle.rdf_terms.specs.Graph.{ArePlacesOf}
use Rattle.rdf_terms.specs.Statement.{Statement}
use Rattle.rdf_terms.proofs.GraphLaws.{triples_rise}
use Rattle.rdf_terms.proofs.Parts.{below_parts, up_to_parts}
use Rattle.rdf_terms.proofs.Ranges.{subjects_rise, places}
use Rattle.rdf_terms.proofs.graph.Graph.places_of.Goals as goal

pub returns : goal.returns
returns c =
    let rises = subjects_rise c.as_slice-triples.result.now c.args.subject.now (rw (← c.as_slice-triples.ensures) at (triples_rise c.args.self.now)) in
    let low = IsPartitionPoint-from_clause (λ (t : Statement). is_lt (term_cmp t.subject c.args.subject.now)) c.as_slice-triples.result.now _ c.partition_point-first.ensures.partitioned (below_parts (λ (t : Statement). term_cmp t.subject c.args.subject.now) _ rises) (λ a r f' k. search rules) in
    let high = IsPartitionPoint-from_clause (λ (t : Statement). is_le (term_cmp t.subject c.args.subject.now)) c.as_slice-triples.result.now _ c.partition_point-after.ensures.partitioned (up_to_parts (λ (t : Statement). term_cmp t.subject c.args.subject.now) _ rises) (λ a r f' k. search rules) in
    subst (λ ts. ArePlacesOf ts c.args.subject.now c.partition_point-first.result c.partition_point-after.result) c.as_slice-triples.ensures
    (places c.as_slice-triples.result.now c.args.subject.now _ _ low high c.partition_point-first.ensures.bound c.partition_point-after.ensures.bound)
