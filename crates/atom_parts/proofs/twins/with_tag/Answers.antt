use Rattle.std.proofs.Common.{rules, ◌∙◌}
use Rattle.std.specs.Cmp.Lexicographic.{slice_cmp}
use Rattle.std.specs.Ordering.{is_lt, is_le, nat_cmp}
use Rattle.std.proofs.lemmas.List.Sorted.{IsPartitionPoint-from_clause}
use Rattle.rdf_terms.proofs.Parts.{ends_ordered, part_is, below_parts, up_to_parts}
use Rattle.atom_parts.specs.declared.twins.TaggedNode.{TaggedNode}
use Rattle.atom_parts.proofs.TagGroups.{tags_rise, tied_are}
use Rattle.atom_parts.proofs.twins.with_tag.Goals as goal

pub slice_bounds-result-count : goal.slice_bounds-result-count
slice_bounds-result-count c =
    let a = c.args.tag.now in
    let key = λ (p : TaggedNode). slice_cmp nat_cmp p.tag.now a in
    let ps = c.args.tagged.now in
    let rises = tags_rise a ps c.requires in
    let low = IsPartitionPoint-from_clause (λ y. is_lt (key y)) ps _ c.partition_point-first.ensures.partitioned (below_parts key ps rises) (λ b r f' k. search rules) in
    let high = IsPartitionPoint-from_clause (λ y. is_le (key y)) ps _ c.partition_point-after.ensures.partitioned (up_to_parts key ps rises) (λ b r f' k. search rules) in
    ends_ordered key ps _ _ c.partition_point-first.ensures.bound low high

pub slice_bounds-result-start : goal.slice_bounds-result-start
slice_bounds-result-start c =
    let a = c.args.tag.now in
    let key = λ (p : TaggedNode). slice_cmp nat_cmp p.tag.now a in
    let ps = c.args.tagged.now in
    let rises = tags_rise a ps c.requires in
    let low = IsPartitionPoint-from_clause (λ y. is_lt (key y)) ps _ c.partition_point-first.ensures.partitioned (below_parts key ps rises) (λ b r f' k. search rules) in
    let high = IsPartitionPoint-from_clause (λ y. is_le (key y)) ps _ c.partition_point-after.ensures.partitioned (up_to_parts key ps rises) (λ b r f' k. search rules) in
    let le = ends_ordered key ps _ _ c.partition_point-first.ensures.bound low high in
    search rules

pub returns : goal.returns
returns c =
    let a = c.args.tag.now in
    let key = λ (p : TaggedNode). slice_cmp nat_cmp p.tag.now a in
    let ps = c.args.tagged.now in
    let rises = tags_rise a ps c.requires in
    let low = IsPartitionPoint-from_clause (λ y. is_lt (key y)) ps _ c.partition_point-first.ensures.partitioned (below_parts key ps rises) (λ b r f' k. search rules) in
    let high = IsPartitionPoint-from_clause (λ y. is_le (key y)) ps _ c.partition_point-after.ensures.partitioned (up_to_parts key ps rises) (λ b r f' k. search rules) in
    part_is key ps _ _ c.partition_point-first.ensures.bound low high ∙ tied_are a ps
