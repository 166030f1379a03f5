use Rattle.std.proofs.Common.{refl, ap, sym, ◌∙◌, subst, IsTrue, Contains, ◌↔◌}
use Rattle.rdf_terms.specs.Nodes.{has_term, nodes_of_list}
use Rattle.rdf_terms.specs.TermOrder.{term_cmp_total, term_cmp-IsAntisymmetric}
use Rattle.rdf_terms.proofs.Membership.{sorted_once, sorted_once_rises}
use Rattle.rdf_terms.proofs.NodesLaws.{nodes_of_list_is}
use Rattle.rdf_terms.proofs.nodes.Nodes.from_terms.Goals as goal

pub invariant_of-result : goal.invariant_of-result
invariant_of-result c =
    sorted_once_rises term_cmp_total term_cmp-IsAntisymmetric (λ x y. refl) _ _ _ c.sort_unstable.ensures.permutation c.sort_unstable.ensures.sorted c.dedup.ensures.filtered

pub returns-clause-value : goal.returns-clause-value
returns-clause-value c =
    sorted_once term_cmp_total term_cmp-IsAntisymmetric (λ x y. refl) _ _ _ c.sort_unstable.ensures.permutation c.sort_unstable.ensures.sorted c.dedup.ensures.filtered ∙ ap nodes_of_list c.into_vec-items.ensures

pub returns-clause-exact : goal.returns-clause-exact
returns-clause-exact c =
    let made = sorted_once term_cmp_total term_cmp-IsAntisymmetric (λ x y. refl) _ _ _ c.sort_unstable.ensures.permutation c.sort_unstable.ensures.sorted c.dedup.ensures.filtered ∙ ap nodes_of_list c.into_vec-items.ensures in
    λ t. subst (λ n. IsTrue (has_term n t) ↔ Contains c.args.terms t) (sym made) (nodes_of_list_is c.args.terms t)
