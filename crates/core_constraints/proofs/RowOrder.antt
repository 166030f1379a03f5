-- The order of rows is total, and ties equal rows alone.
use Rattle.std.proofs.Common.{◌≡◌, ◌&&◌, ℕ, Bool, true, List, [], Contains, Option, Some, None, map, refl, sym, ap, ◌∙◌, subst, arith}
use Rattle.std.proofs.Math.Path.{fun_ext}
use Rattle.std.proofs.lemmas.Bool.Decides.{nat_tests}
use Rattle.std.specs.Prelude.{nat_eq}
use Rattle.std.specs.declared.cmp.Ordering.{Ordering}
use Rattle.std.specs.Ordering.{ordering_then, is_eq, eq_by_cmp, nat_cmp}
use Rattle.std.specs.Option.{option_cmp, option_eq}
use Rattle.std.specs.Cmp.{IsTotalOrder, IsEquivalence}
use Rattle.std.specs.Cmp.Lexicographic.{options_total, pointwise}
use Rattle.std.specs.FinMap.{IsAntisymmetric, nat_cmp-IsAntisymmetric, slice_cmp-IsAntisymmetric}
use Rattle.std.specs.List.{dedup}
use Rattle.std.specs.List.Retain.{IsFiltered, DiffersFromLast}
use Rattle.std.specs.List.Sorted.{IsPermutation, IsSorted, IsStrictlySortedBy}
use Rattle.std.proofs.lemmas.Cmp.{on_total, then_total, nat_list_cmp_total, eq_by_cmp_equiv, same_from_slice_cmp}
use Rattle.std.proofs.lemmas.List.Filters.{dedup_is}
use Rattle.std.proofs.lemmas.List.Kept.{Contains-dedup, Contains-from_dedup, IsStrictlySortedBy-dedup}
use Rattle.std.proofs.lemmas.List.Sorted.{Contains-permutation, IsPermutation-sym}
use Rattle.rdf_terms.specs.Term.{term_cmp, text_cmp}
use Rattle.rdf_terms.specs.TermOrder.{term_cmp_total, term_cmp-IsAntisymmetric}
use Rattle.rdf_terms.proofs.Members.{in_map, map_in}
use Rattle.rdf_terms.proofs.Orders.{both_ties, both_equal, equal_of}
use Rattle.shapes_graph.specs.Results as results
use Rattle.core_constraints.specs.declared.result_rows.ResultRow.{ResultRow}
use Rattle.core_constraints.specs.contracts.result_rows.ResultRowPartialEq.TheImpl.{eq-value}
use Rattle.core_constraints.specs.Rows.{result_of, row_cmp, AreRowsOf}

pub row_cmp_total : IsTotalOrder row_cmp
row_cmp_total =
    then_total (on_total (λ (r : ResultRow). r.focus) term_cmp_total)
    (then_total (on_total (λ (r : ResultRow). r.shape) term_cmp_total)
    (then_total (on_total (λ (r : ResultRow). r.component) nat_list_cmp_total)
    (then_total (on_total (λ (r : ResultRow). r.path) (options_total term_cmp_total))
    (then_total (on_total (λ (r : ResultRow). r.value) (options_total term_cmp_total))
    (then_total (on_total (λ (r : ResultRow). r.message) (options_total nat_list_cmp_total)) (on_total (λ (r : ResultRow). r.severity) term_cmp_total))))))

options_tie : {X : Type 0} {R : X → X → Ordering} → IsAntisymmetric R → IsAntisymmetric (option_cmp R)
options_tie same None None e = refl
options_tie same None (Some y) e = cc
options_tie same (Some x) None e = cc
options_tie same (Some x) (Some y) e = ap Some (same x y e)

texts_tie : IsAntisymmetric text_cmp
texts_tie = slice_cmp-IsAntisymmetric nat_cmp-IsAntisymmetric

rows_tie : IsAntisymmetric row_cmp
rows_tie a b e =
    let e0 = both_ties _ _ e in
    let e1 = both_ties _ _ e0.1 in
    let e2 = both_ties _ _ e1.1 in
    let e3 = both_ties _ _ e2.1 in
    let e4 = both_ties _ _ e3.1 in
    let e5 = both_ties _ _ e4.1 in
    let focus = term_cmp-IsAntisymmetric a.focus b.focus e0.0 in
    let shape = term_cmp-IsAntisymmetric a.shape b.shape e1.0 in
    let component = texts_tie a.component b.component e2.0 in
    let path = options_tie term_cmp-IsAntisymmetric a.path b.path e3.0 in
    let value = options_tie term_cmp-IsAntisymmetric a.value b.value e4.0 in
    let message = options_tie texts_tie a.message b.message e5.0 in
    let severity = term_cmp-IsAntisymmetric a.severity b.severity e5.1 in
    λ j. record { focus = focus j; shape = shape j; component = component j; path = path j; value = value j; message = message j; severity = severity j }

-- the tests of equality are those of the orders
texts_same : (xs ys : List ℕ) → pointwise nat_eq xs ys ≡ is_eq (text_cmp xs ys)
texts_same xs ys = sym (same_from_slice_cmp nat_cmp is_eq (pointwise nat_eq) refl (λ _ _. refl) (λ _ _. refl) (λ x y us vs o h. grind (arith, nat_tests)) xs ys (text_cmp xs ys) refl)

options_same : {X : Type 0} (E : X → X → Bool) (R : X → X → Ordering) → ((x y : X) → E x y ≡ is_eq (R x y)) → (p q : Option X) → option_eq E p q ≡ is_eq (option_cmp R p q)
options_same E R same None None = refl
options_same E R same None (Some y) = refl
options_same E R same (Some x) None = refl
options_same E R same (Some x) (Some y) = same x y

all_equal : (a b c d e f g : Ordering) → is_eq (ordering_then a (ordering_then b (ordering_then c (ordering_then d (ordering_then e (ordering_then f g)))))) ≡ (is_eq a && (is_eq b && (is_eq c && (is_eq d && (is_eq e && (is_eq f && is_eq g))))))
all_equal a b c d e f g =
    both_equal a _ ∙ ap (λ t. is_eq a && t) (both_equal b _ ∙ ap (λ t. is_eq b && t) (both_equal c _ ∙ ap (λ t. is_eq c && t) (both_equal d _ ∙ ap (λ t. is_eq d && t) (both_equal e _ ∙ ap (λ t. is_eq e && t) (both_equal f g)))))

row_ties : (a b : ResultRow) → eq-value.it a b ≡ eq_by_cmp row_cmp a b
row_ties a b =
    let component = texts_same a.component b.component in
    let path = options_same (eq_by_cmp term_cmp) term_cmp (λ x y. refl) a.path b.path in
    let value = options_same (eq_by_cmp term_cmp) term_cmp (λ x y. refl) a.value b.value in
    let message = options_same (pointwise nat_eq) text_cmp texts_same a.message b.message in
    let parts : eq-value.it a b ≡ (is_eq (term_cmp a.focus b.focus) && (is_eq (term_cmp a.shape b.shape) && (is_eq (text_cmp a.component b.component) && (is_eq (option_cmp term_cmp a.path b.path) && (is_eq (option_cmp term_cmp a.value b.value) && (is_eq (option_cmp text_cmp a.message b.message) && is_eq (term_cmp a.severity b.severity)))))))
    = λ j. is_eq (term_cmp a.focus b.focus) && (is_eq (term_cmp a.shape b.shape) && (component j && (path j && (value j && (message j && is_eq (term_cmp a.severity b.severity)))))) in
    parts ∙ sym (all_equal (term_cmp a.focus b.focus) (term_cmp a.shape b.shape) (text_cmp a.component b.component) (option_cmp term_cmp a.path b.path) (option_cmp term_cmp a.value b.value) (option_cmp text_cmp a.message b.message) (term_cmp a.severity b.severity))

row_laws : IsEquivalence eq-value.it
row_laws = subst IsEquivalence (sym (fun_ext (λ a. fun_ext (λ b. row_ties a b)))) (eq_by_cmp_equiv row_cmp_total)

same_row : (a b : ResultRow) → eq-value.it a b ≡ true → a ≡ b
same_row a b e = rows_tie a b (equal_of (row_cmp a b) (sym (row_ties a b) ∙ e))

-- sorted, and then each once
pub sorted_rows : (ys zs : List ResultRow) → IsSorted row_cmp ys → IsFiltered (DiffersFromLast eq-value.it) [] ys zs → IsStrictlySortedBy row_cmp zs
sorted_rows ys zs sorted once = subst (IsStrictlySortedBy row_cmp) (sym (dedup_is eq-value.it ys zs once)) (IsStrictlySortedBy-dedup row_cmp_total row_ties ys sorted)

-- the same rows
pub kept_rows : (P : results.ResultRow → Type 0) (xs ys zs : List ResultRow) → IsPermutation xs ys → IsFiltered (DiffersFromLast eq-value.it) [] ys zs → AreRowsOf P xs → AreRowsOf P zs
kept_rows P xs ys zs moved once rows r = (λ c. (rows r).0 (to c), λ p. from ((rows r).1 p))
  where
    is : zs ≡ dedup eq-value.it ys
    is = dedup_is eq-value.it ys zs once

    to : Contains (map result_of zs) r → Contains (map result_of xs) r
    to c =
        let m = map_in result_of zs r c in
        subst (Contains (map result_of xs)) m.2 (in_map result_of xs m.0 (Contains-permutation ys xs m.0 (IsPermutation-sym xs ys moved) (Contains-from_dedup eq-value.it ys m.0 (subst (λ us. Contains us m.0) is m.1))))

    from : Contains (map result_of xs) r → Contains (map result_of zs) r
    from c =
        let m = map_in result_of xs r c in
        subst (Contains (map result_of zs)) m.2 (in_map result_of zs m.0 (subst (λ us. Contains us m.0) (sym is) (Contains-dedup row_laws same_row ys m.0 (Contains-permutation xs ys m.0 moved m.1))))
