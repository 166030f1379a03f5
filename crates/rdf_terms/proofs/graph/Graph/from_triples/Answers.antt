use Rattle.std.proofs.Common.{◌≡◌, ◌↔◌, IsTrue, Contains, IfOk, sym, ap, ◌∙◌, subst}
use Rattle.rdf_terms.specs.Graph.{has, of_list}
use Rattle.std.proofs.lemmas.Result.{IfOk-weaker}
use Rattle.rdf_terms.proofs.GraphLaws.{of_list_is}
use Rattle.rdf_terms.proofs.graph.Graph.from_triples.Goals as goal

pub returns-clause-value : goal.returns-clause-value
returns-clause-value c = subst (λ g. IfOk c.from_rising.result (λ h. h ≡ g)) (c.in_ok-items.ensures.value ∙ ap of_list c.into_vec.ensures) c.from_rising.ensures

pub returns-clause-exact : goal.returns-clause-exact
returns-clause-exact c =
    let made = c.in_ok-items.ensures.value ∙ ap of_list c.into_vec.ensures in
    IfOk-weaker c.from_rising.result _ _ (λ g e t. subst (λ h. IsTrue (has h t) ↔ Contains c.args.triples t) (sym (e ∙ made)) (of_list_is c.args.triples t)) c.from_rising.ensures
