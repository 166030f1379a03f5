use Rattle.std.proofs.Common.{◌≡◌, ℕ, ◌<◌, List, ◌++◌, Some, length, map, filter, nat_lt, get_or, take_all, flat_map, slice_get, option_copied, sym, ap, ◌∙◌, subst, append-nil}
use Rattle.rdf_terms.specs.Nodes.{Nodes, terms}
use Rattle.rdf_navigation.proofs.PropertyLaws.{none_of}
use Rattle.shapes_graph.specs.NodeTests.{tag_of}
use Rattle.path_levels.proofs.NodeLaws.{node_is}
use Rattle.atom_parts.specs.declared.twins.TaggedNode.{TaggedNode}
use Rattle.atom_parts.specs.TaggedNodes.{AreByTags, numbers, with_tag, tag_at}
use Rattle.atom_parts.proofs.TagGroups.{pairs_of, later_is, later_none, twins_next}
use Rattle.atom_parts.proofs.twins.twins.Goals as goal
use Rattle.atom_parts.proofs.twins.twins.Goals.{in-Some+in_ok-push_pairs, in_default}

pub nth_term-requires : goal.nth_term-requires
nth_term-requires c = subst (λ (n : Nodes). get_or c.args.values.now c.values.y-index 0 < length (terms n)) (sym c.nodes-nodes.ensures) (c.requires c.values.y-index 0 c.values-test.true)

pub with_tag-requires : goal.with_tag-requires
with_tag-requires c = subst AreByTags (sym c.as_slice.ensures.value) c.in_ok-tagged.ensures.sorted

pub values-preserved : goal.values-preserved
values-preserved c =
    let s = c.args.problem.now in
    let ys = c.args.values.now in
    let k = c.values.y-index in
    let y = get_or ys k 0 in
    let a = c.nth_term.result.now in
    let there = node_is s y a (subst (λ (n : Nodes). slice_get (terms n) y ≡ Some a) c.nodes-nodes.ensures c.nth_term.ensures) in
    let tag = ap tag_of there ∙ sym c.tag_of.ensures in
    let pushed : c.match-tag_of.pairs.items ≡ c.values.pairs.items ++ pairs_of (tag_at c.args.problem.now) c.args.values.now (get_or c.args.values.now c.values.y-index 0) = elim c.match-tag_of.branch [
      | in-Some+in_ok-push_pairs w ↦
          let group = w.with_tag.ensures ∙ ap (λ (ps : List TaggedNode). with_tag w.in-Some.tag.now ps) w.as_slice.ensures.value in
          (λ j. (w.pairs-is j).items)
          ∙ (w.in_ok-push_pairs.ensures
          ∙ (ap (λ (ps : List TaggedNode). c.values.pairs.items ++ map (λ z. (y, z)) (filter (nat_lt y) (numbers ps))) group
          ∙ ap (λ (zs : List ℕ). c.values.pairs.items ++ map (λ z. (y, z)) zs) (later_is (tag_at s) ys y w.in-Some.tag.now c.in_ok-tagged.tagged.items c.in_ok-tagged.ensures.exact (tag ∙ ap option_copied w.in-Some.is))))
      | in_default w ↦
          (λ j. (w.pairs-is j).items)
          ∙ (sym (append-nil c.values.pairs.items)
          ∙ ap (λ (zs : List ℕ). c.values.pairs.items ++ map (λ z. (y, z)) zs) (sym (later_none (tag_at s) ys y (tag ∙ ap option_copied (none_of c.tag_of.result w.in_default.not-Some)))))
    ] in
    pushed ∙ twins_next (tag_at s) ys k 0 c.values.pairs.items c.values-test.true c.values.invariant

pub returns : goal.returns
returns c = c.values.invariant ∙ ap (flat_map (pairs_of (tag_at c.args.problem.now) c.args.values.now)) (take_all c.values.y-index c.args.values.now c.values-test.false)
