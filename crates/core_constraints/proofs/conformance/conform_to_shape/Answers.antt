use Rattle.std.proofs.Common.{get_or, Contains, sym, subst}
use Rattle.std.proofs.lemmas.Option.{slice_get-get_or}
use Rattle.rdf_terms.proofs.Members.{in_map}
use Rattle.rdf_navigation.specs.Numbers.{term_at}
use Rattle.path_eval.specs.Numbered.{terms_at}
use Rattle.rdf_terms.specs.declared.term.Term.{Term}
use Rattle.shapes_graph.specs.Targets.{IsFocus}
use Rattle.core_constraints.specs.Findings.{shapes_of, data_of, IsConforming}
use Rattle.core_constraints.proofs.Decided.{in_at, each_at, says_true, says_false}
use Rattle.core_constraints.proofs.FirstItems.{mapped_more, mapped_whole}
use Rattle.core_constraints.proofs.conformance.conform_to_shape.Goals as goal

pub nodes-init : goal.nodes-init
nodes-init c = (c.requires.truthful, tt)

pub conforms_to-requires-clause-node : goal.conforms_to-requires-clause-node
conforms_to-requires-clause-node c =
    let is = c.as_slice-node-items.result.now in
    let i = c.nodes.node-index in
    let v = get_or is i 0 in
    c.in_ok-nodes.ensures.within v (subst (λ vs. Contains vs v) c.as_slice-node-items.ensures.value (in_at is i v (slice_get-get_or is i 0 c.nodes-test.true)))

pub returns-then-not-branch-clause-says : goal.returns-then-not-branch-clause-says
returns-then-not-branch-clause-says c =
    let ns = c.args.input.now.graph.nodes in
    let is = c.as_slice-node-items.result.now in
    let i = c.nodes.node-index in
    let v = get_or is i 0 in
    let there = subst (λ vs. Contains vs v) c.as_slice-node-items.ensures.value (in_at is i v (slice_get-get_or is i 0 c.nodes-test.true)) in
    λ all. says_false c.in_ok-conforms_to.field-0 (IsConforming c.args.input.now c.args.shape (term_at ns v)) c.in_ok-conforms_to.ensures.says c.if-not-branch.true
    (all (term_at ns v) ((c.in_ok-nodes.ensures.exact (term_at ns v)).0 (in_map (term_at ns) c.in_ok-nodes.nodes.items v there)).1)

pub nodes-preserved : goal.nodes-preserved
nodes-preserved c =
    let ns = c.args.input.now.graph.nodes in
    let P = IsConforming c.args.input.now c.args.shape in
    let is = c.as_slice-node-items.result.now in
    let i = c.nodes.node-index in
    let v = get_or is i 0 in
    (c.in_ok-conforms_to.ensures.truthful, mapped_more (term_at ns) P is i v (slice_get-get_or is i 0 c.nodes-test.true) (says_true c.in_ok-conforms_to.field-0 (P (term_at ns v)) c.in_ok-conforms_to.ensures.says c.if-not-branch.false) c.nodes.invariant.1)

pub returns-clause-says : goal.returns-clause-says
returns-clause-says c =
    let ns = c.args.input.now.graph.nodes in
    let P = IsConforming c.args.input.now c.args.shape in
    let is = c.as_slice-node-items.result.now in
    let i = c.nodes.node-index in
    let there = λ (x : Term) (f : IsFocus (shapes_of c.args.input.now) c.args.shape (data_of c.args.input.now) x). subst (λ vs. Contains (terms_at ns vs) x) (sym c.as_slice-node-items.ensures.value) ((c.in_ok-nodes.ensures.exact x).1 (c.requires.focus c.args.shape x f, f)) in
    λ x f. each_at P (terms_at ns is) x (mapped_whole (term_at ns) P is i c.nodes-test.false c.nodes.invariant.1) (there x f)
