use Rattle.std.proofs.Common.{◌≡◌, List, IsTrue, flat_map, sym, ap, ◌∙◌, subst}
use Rattle.rdf_terms.specs.declared.term.Term.{Term}
use Rattle.rdf_terms.specs.Graph.{Graph, empty}
use Rattle.rdf_terms.specs.Members.{IsListOf}
use Rattle.rdf_terms.specs.Nodes.{Nodes, has_term, is_rising, nodes_of}
use Rattle.shapes_graph.specs.Targets.{IsFocus}
use Rattle.path_eval.specs.Numbered.{terms_at, AreNumbers}
use Rattle.path_eval.proofs.GrowthLaws.{if_ok}
use Rattle.path_eval.proofs.LinkLaws.{list_same}
use Rattle.path_eval.proofs.ReachedLaws.{terms_rise}
use Rattle.targets.specs.Selection.{named_nodes}
use Rattle.targets.proofs.SelectionLaws.{focus_there}
use Rattle.targets.proofs.focus.focus_nodes.Goals as goal

pub terms_at-requires : goal.terms_at-requires
terms_at-requires c = subst (AreNumbers c.in_ok-numbered.numbered.nodes) (sym c.as_slice-2.ensures.value) c.in_ok-found.ensures.within

pub returns-clause-rises : goal.returns-clause-rises
returns-clause-rises c =
    let n = c.in_ok-numbered.numbered.nodes in
    if_ok c.terms_at.result _ c.terms_at.ensures
    (λ ts e. subst (λ (us : List Term). IsTrue (is_rising us)) (sym (e ∙ ap (terms_at n) c.as_slice-2.ensures.value)) (terms_rise n c.in_ok-found.found.items c.in_ok-found.ensures.within c.in_ok-found.ensures.rises))

pub returns-clause-exact : goal.returns-clause-exact
returns-clause-exact c =
    let s = c.args.shapes.now in
    let m = c.args.s in
    let g = c.args.graph.now in
    let n = c.in_ok-numbered.numbered.nodes in
    let ks = c.targets_of.result.now in
    let found = c.in_ok-found.found.items in
    let is : n ≡ nodes_of g empty (flat_map named_nodes ks) = c.in_ok-numbered.ensures.nodes ∙ ap (nodes_of g empty) (c.as_slice.ensures ∙ c.in_ok-named.ensures) in
    let all = subst (λ (h : Graph). IsListOf (λ x. IsTrue (has_term n x) × IsFocus s m h x) (terms_at n found)) c.in_ok-numbered.ensures.graph c.in_ok-found.ensures.exact in
    let own = list_same (λ x. IsTrue (has_term n x) × IsFocus s m g x) (IsFocus s m g) (terms_at n found)
    (λ x. (λ h. h.1, λ f. (subst (λ (u : Nodes). IsTrue (has_term u x)) (sym is) (focus_there s c.triples-triples.ensures.profile m ks c.targets_of.ensures g x f), f))) all in
    if_ok c.terms_at.result _ c.terms_at.ensures (λ ts e. subst (λ (us : List Term). IsListOf (IsFocus s m g) us) (sym (e ∙ ap (terms_at n) c.as_slice-2.ensures.value)) own)
