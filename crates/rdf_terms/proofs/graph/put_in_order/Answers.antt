use Rattle.std.proofs.Common.{◌≡◌, ◌++◌, ℕ, true, List, length, take, refl, sym, ◌∙◌, subst}
use Rattle.std.specs.List.Sorted.{IsPermutation}
use Rattle.std.proofs.lemmas.List.{take_at}
use Rattle.std.proofs.lemmas.List.Sorted.{IsPermutation-refl, IsPermutation-trans}
use Rattle.rdf_terms.specs.Graph.{is_rising}
use Rattle.rdf_terms.specs.TermOrder.{statement_cmp_total, statement_cmp-IsAntisymmetric}
use Rattle.rdf_terms.proofs.GraphLaws.{graph_of-permuted}
use Rattle.rdf_terms.proofs.Membership.{sorted_once, sorted_once_rises}
use Rattle.rdf_terms.proofs.graph.put_in_order.Goals as goal

-- what is moved about in a slice of a Vec is moved about in the Vec
moved : {X : Type 0} (part items new rest : List X) (len : ℕ) → part ≡ items → length new ≡ len → IsPermutation part new → IsPermutation items (take len (new ++ rest))
moved part items new rest len e l p = subst (IsPermutation items) (sym (take_at new rest len l)) (subst (λ us. IsPermutation us new) e p)

pub returns-then-do_rise-clause-value : goal.returns-then-do_rise-clause-value
returns-then-do_rise-clause-value c =
    graph_of-permuted _ _ (IsPermutation-refl _) (subst (λ us. is_rising us ≡ true) c.as_slice.ensures.value (c.do_rise.ensures c.if-do_rise.true))

pub returns-then-do_rise-2-clause-value : goal.returns-then-do_rise-2-clause-value
returns-then-do_rise-2-clause-value c =
    graph_of-permuted _ _ (moved _ _ _ _ _ c.as_mut_slice.ensures.value (c.presort.auto.triples ∙ c.as_mut_slice.ensures.len) c.presort.ensures)
    (subst (λ us. is_rising us ≡ true) c.as_slice-2.ensures.value (c.do_rise-2.ensures c.if-do_rise-2.true))

pub returns-clause-rises : goal.returns-clause-rises
returns-clause-rises c =
    let near = moved _ _ _ _ _ c.as_mut_slice.ensures.value (c.presort.auto.triples ∙ c.as_mut_slice.ensures.len) c.presort.ensures in
    sorted_once_rises statement_cmp_total statement_cmp-IsAntisymmetric (λ x y. refl) _ _ _ (IsPermutation-trans _ _ _ near c.sort_unstable.ensures.permutation) c.sort_unstable.ensures.sorted c.dedup.ensures.filtered

pub returns-clause-value : goal.returns-clause-value
returns-clause-value c =
    let near = moved _ _ _ _ _ c.as_mut_slice.ensures.value (c.presort.auto.triples ∙ c.as_mut_slice.ensures.len) c.presort.ensures in
    sorted_once statement_cmp_total statement_cmp-IsAntisymmetric (λ x y. refl) _ _ _ (IsPermutation-trans _ _ _ near c.sort_unstable.ensures.permutation) c.sort_unstable.ensures.sorted c.dedup.ensures.filtered
