use Rattle.std.proofs.Common.{◌↔◌, ◌++◌, IsTrue, Contains, ◌⊎◌, sym, ap, ◌∙◌, subst, take_all}
use Rattle.std.proofs.lemmas.Result.{IfOk-weaker}
use Rattle.rdf_terms.specs.Graph.{triples}
use Rattle.rdf_terms.specs.Nodes.{has_term, nodes_of_list, ends, IsNodeOf}
use Rattle.rdf_terms.proofs.NodesLaws.{nodes_of_is}
use Rattle.rdf_terms.proofs.nodes.nodes_of.Goals as goal

pub returns-clause-exact : goal.returns-clause-exact
returns-clause-exact c =
    let g = c.args.first.now in
    let h = c.args.second.now in
    let more = c.args.more.now in
    let all = c.copying.invariant ∙ ap (λ ts. (ends (triples g) ++ ends (triples h)) ++ ts) (take_all c.copying.term-index more c.copying-test.false) in
    IfOk-weaker c.from_terms.result _ _ (λ n e t. subst (λ m. IsTrue (has_term m t) ↔ ((IsNodeOf g t ⊎ IsNodeOf h t) ⊎ Contains more t)) (sym (e ∙ ap nodes_of_list all)) (nodes_of_is g h more t)) c.from_terms.ensures.value
