use Rattle.std.proofs.Common.{◌≡◌, ℕ, ◌+◌, ◌<◌, List, Some, length, get_or, take, take_all, slice_get, option_copied, refl, sym, ap, ◌∙◌, subst}
use Rattle.rdf_terms.specs.Nodes.{Nodes, terms}
use Rattle.rdf_navigation.proofs.PropertyLaws.{none_of}
use Rattle.shapes_graph.specs.NodeTests.{tag_of}
use Rattle.path_levels.proofs.NodeLaws.{node_is}
use Rattle.atom_parts.specs.declared.twins.TaggedNode.{TaggedNode}
use Rattle.atom_parts.specs.TaggedNodes.{AreTagged, tag_at}
use Rattle.atom_parts.proofs.TagGroups.{tagged_push, tagged_pass}
use Rattle.atom_parts.proofs.twins.tagged_nodes.Goals as goal
use Rattle.atom_parts.proofs.twins.tagged_nodes.Goals.{in-Some+in_ok-push, in_default}

pub values-init : goal.values-init
values-init c = subst (λ (ps : List TaggedNode). AreTagged (tag_at c.args.problem.now) (take 0 c.args.values.now) ps) (sym c.new-tagged.ensures.items) (λ a. refl)

pub nth_term-requires : goal.nth_term-requires
nth_term-requires c = subst (λ (n : Nodes). get_or c.args.values.now c.values.y-index 0 < length (terms n)) (sym c.nodes-nodes.ensures) (c.requires c.values.y-index 0 c.values-test.true)

pub values-preserved : goal.values-preserved
values-preserved c =
    let s = c.args.problem.now in
    let ys = c.args.values.now in
    let k = c.values.y-index in
    let y = get_or ys k 0 in
    let a = c.nth_term.result.now in
    let there = node_is s y a (subst (λ (n : Nodes). slice_get (terms n) y ≡ Some a) c.nodes-nodes.ensures c.nth_term.ensures) in
    let tag = ap tag_of there ∙ sym c.tag_of.ensures in
    elim c.match-tag_of.branch [
      | in-Some+in_ok-push w ↦
          subst (λ (ps : List TaggedNode). AreTagged (tag_at s) (take (k + 1) ys) ps) (sym ((λ j. (w.tagged-is j).items) ∙ w.in_ok-push.ensures.items))
          (tagged_push (tag_at s) ys k 0 c.values.tagged.items (record { tag = w.in-Some.tag; node = get_or ys k 0 }) c.values-test.true c.values.invariant (tag ∙ ap option_copied w.in-Some.is) refl)
      | in_default w ↦
          subst (λ (ps : List TaggedNode). AreTagged (tag_at s) (take (k + 1) ys) ps) (sym (λ j. (w.tagged-is j).items))
          (tagged_pass (tag_at s) ys k 0 c.values.tagged.items c.values-test.true c.values.invariant (tag ∙ ap option_copied (none_of c.tag_of.result w.in_default.not-Some)))
    ]

pub returns : goal.returns
returns c = subst (λ (us : List ℕ). AreTagged (tag_at c.args.problem.now) us c.values.tagged.items) (take_all c.values.y-index c.args.values.now c.values-test.false) c.values.invariant
