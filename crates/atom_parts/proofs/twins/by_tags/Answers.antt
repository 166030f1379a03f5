use Rattle.std.proofs.Common.{rules}
use Rattle.std.specs.Cmp.Lexicographic.{nat_list_cmp_total}
use Rattle.std.proofs.lemmas.Fn.{always_returns_same}
use Rattle.std.proofs.lemmas.List.Sorted.{ranks_by}
use Rattle.atom_parts.specs.declared.twins.TaggedNode.{TaggedNode}
use Rattle.atom_parts.specs.TaggedNodes.{tag_at}
use Rattle.atom_parts.proofs.TagGroups.{is_below, tagged_sorted}
use Rattle.atom_parts.proofs.twins.by_tags.Goals as goal

pub returns-clause-sorted : goal.returns-clause-sorted
returns-clause-sorted c = c.in_ok-sort_by.ensures.sorted is_below (ranks_by nat_list_cmp_total (λ (p : TaggedNode). p.tag.now)) (always_returns_same _ _ _ (λ a r f' k. search rules))

pub returns-clause-exact : goal.returns-clause-exact
returns-clause-exact c =
    tagged_sorted (tag_at c.args.problem.now) c.args.values.now c.in_ok-tagged.tagged.items c.sort_by.new.self.items
    (c.sort_by.ensures.stable is_below (ranks_by nat_list_cmp_total (λ (p : TaggedNode). p.tag.now)) (always_returns_same _ _ _ (λ a r f' k. search rules)))
    c.in_ok-tagged.ensures
