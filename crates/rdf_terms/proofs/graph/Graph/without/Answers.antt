use Rattle.std.proofs.Common.{◌≡◌, true, ap, sym, ◌∙◌, subst, IfOk}
use Rattle.rdf_terms.specs.Graph.{has, graph_of, without, is_rising}
use Rattle.rdf_terms.proofs.GraphLaws.{triples_rise, graph_of-triples, has-without}
use Rattle.std.proofs.lemmas.Result.{IfOk-weaker}
use Rattle.rdf_terms.proofs.graph.Graph.without.Goals as goal

pub from_rising-requires : goal.from_rising-requires
from_rising-requires c = subst (λ ts. is_rising ts ≡ true) (sym c.in_ok-items.ensures) (triples_rise (without c.args.self.now c.args.other.now))

pub returns-clause-value : goal.returns-clause-value
returns-clause-value c =
    subst (λ g. IfOk c.from_rising.result (λ h. h ≡ g)) (ap graph_of c.in_ok-items.ensures ∙ graph_of-triples (without c.args.self.now c.args.other.now)) c.from_rising.ensures

pub returns-clause-exact : goal.returns-clause-exact
returns-clause-exact c =
    let made = ap graph_of c.in_ok-items.ensures ∙ graph_of-triples (without c.args.self.now c.args.other.now) in
    IfOk-weaker c.from_rising.result _ _ (λ g e t. ap (λ h. has h t) (e ∙ made) ∙ has-without c.args.self.now c.args.other.now t) c.from_rising.ensures
