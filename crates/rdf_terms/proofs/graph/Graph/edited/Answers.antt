use Rattle.std.proofs.Common.{◌≡◌, ◌++◌, refl, ap, ◌∙◌, subst, IfOk, take_all}
use Rattle.rdf_terms.specs.Graph.{has, triples, without, of_list}
use Rattle.rdf_terms.proofs.GraphLaws.{has-edited}
use Rattle.std.proofs.lemmas.Result.{IfOk-weaker}
use Rattle.rdf_terms.specs.TermOrder.{statement_cmp_total, statement_cmp-IsAntisymmetric}
use Rattle.rdf_terms.proofs.Membership.{sorted_once, sorted_once_rises, of_list-edited}
use Rattle.rdf_terms.proofs.graph.Graph.edited.Goals as goal

pub from_rising-requires : goal.from_rising-requires
from_rising-requires c =
    sorted_once_rises statement_cmp_total statement_cmp-IsAntisymmetric (λ x y. refl) _ _ _ c.sort.ensures.permutation c.in_ok-sort.ensures.sorted c.dedup.ensures.filtered

pub returns-clause-value : goal.returns-clause-value
returns-clause-value c =
    let made = sorted_once statement_cmp_total statement_cmp-IsAntisymmetric (λ x y. refl) _ _ _ c.sort.ensures.permutation c.in_ok-sort.ensures.sorted c.dedup.ensures.filtered in
    let listed = c.adding.invariant ∙ ap (λ ts. triples (without c.args.self.now c.args.delete.now) ++ ts) (take_all c.adding.triple-index c.as_slice-triple-items.result.now c.adding-test.false ∙ c.as_slice-triple-items.ensures) in
    subst (λ g. IfOk c.from_rising.result (λ h. h ≡ g)) (made ∙ ap of_list listed ∙ of_list-edited statement_cmp_total statement_cmp-IsAntisymmetric c.args.self.now c.args.add.now c.args.delete.now) c.from_rising.ensures

pub returns-clause-exact : goal.returns-clause-exact
returns-clause-exact c =
    let made = sorted_once statement_cmp_total statement_cmp-IsAntisymmetric (λ x y. refl) _ _ _ c.sort.ensures.permutation c.in_ok-sort.ensures.sorted c.dedup.ensures.filtered in
    let listed = c.adding.invariant ∙ ap (λ ts. triples (without c.args.self.now c.args.delete.now) ++ ts) (take_all c.adding.triple-index c.as_slice-triple-items.result.now c.adding-test.false ∙ c.as_slice-triple-items.ensures) in
    let all = made ∙ ap of_list listed ∙ of_list-edited statement_cmp_total statement_cmp-IsAntisymmetric c.args.self.now c.args.add.now c.args.delete.now in
    IfOk-weaker c.from_rising.result _ _ (λ g e t. ap (λ h. has h t) (e ∙ all) ∙ has-edited c.args.self.now c.args.add.now c.args.delete.now t) c.from_rising.ensures
