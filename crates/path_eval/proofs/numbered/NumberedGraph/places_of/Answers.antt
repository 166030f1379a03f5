use Rattle.std.proofs.Common.{◌≡◌, ◌≤◌, ℕ, List, true, false, ◌<◌, length, rules, subst, nat_lt, nat_le, sym}
use Rattle.std.proofs.lemmas.List.Sorted.{IsPartitionPoint-from_clause}
use Rattle.std.specs.List.Sorted.{IsPartitionPoint, IsPartitionedBy}
use Rattle.rdf_terms.specs.Graph.{triples, ArePlacesOf}
use Rattle.rdf_terms.specs.Nodes.{terms}
use Rattle.rdf_navigation.specs.Numbers.{term_at}
use Rattle.path_eval.specs.Numbered.{Numbered}
use Rattle.path_eval.proofs.SubjectPlaces.{below_parts, up_to_parts, places}
use Rattle.path_eval.proofs.numbered.NumberedGraph.places_of.Goals as goal

pub returns : goal.returns
returns c =
    let v = c.self.inside in
    let k = c.args.subject in
    let a = c.self.invariant in
    let within = subst (λ (u : Numbered). k < length (terms u.nodes)) (sym c.self.view_is) c.requires in
    let items = c.as_slice-subjects.result.now in
    let same = c.as_slice-subjects.ensures.value in
    let low = IsPartitionPoint-from_clause (λ m. nat_lt m k) items _ c.partition_point-first.ensures.partitioned (subst (IsPartitionedBy (λ m. nat_lt m k)) (sym same) (below_parts v.graph.now v.nodes v.subjects.items v.objects.items a k)) (λ x r f' h. search rules) in
    let high = IsPartitionPoint-from_clause (λ m. nat_le m k) items _ c.partition_point-after.ensures.partitioned (subst (IsPartitionedBy (λ m. nat_le m k)) (sym same) (up_to_parts v.graph.now v.nodes v.subjects.items v.objects.items a k)) (λ x r f' h. search rules) in
    let first = c.partition_point-first.result in
    let after = c.partition_point-after.result in
    subst (λ (u : Numbered). ArePlacesOf (triples u.graph) (term_at u.nodes k) c.partition_point-first.result c.partition_point-after.result) c.self.view_is
    (places v.graph.now v.nodes v.subjects.items v.objects.items a k first after within
    (subst (λ (xs : List ℕ). IsPartitionPoint (λ m. nat_lt m k ≡ true) (λ m. nat_lt m k ≡ false) xs first) same low)
    (subst (λ (xs : List ℕ). IsPartitionPoint (λ m. nat_le m k ≡ true) (λ m. nat_le m k ≡ false) xs after) same high)
    (subst (λ (xs : List ℕ). first ≤ length xs) same c.partition_point-first.ensures.bound) (subst (λ (xs : List ℕ). after ≤ length xs) same c.partition_point-after.ensures.bound))
