use Rattle.std.proofs.Common.{◌≡◌, ℕ, ◌+◌, ◌-◌, ◌*◌, ◌<◌, ◌≤◌, Some, None, List, length, get_or, slice_get, Contains, sym, ap, ◌∙◌, subst, arith}
use Rattle.std.specs.HashMap.{get}
use Rattle.std.specs.Prelude.{nat_eq}
use Rattle.std.specs.List.Sorted.{IsStrictlySortedBy}
use Rattle.std.proofs.lemmas.Option.{slice_get-get_or}
use Rattle.rdf_terms.specs.Graph.{Graph}
use Rattle.rdf_terms.specs.Nodes.{terms}
use Rattle.rdf_terms.proofs.NodesLaws.{term_listed}
use Rattle.rdf_navigation.proofs.PropertyLaws.{not_missing}
use Rattle.path_eval.proofs.Found.{at_place}
use Rattle.shapes_graph.specs.Results.{IsResult}
use Rattle.core_constraints.specs.declared.input.Input.{Input}
use Rattle.core_constraints.specs.declared.memo.Memo.{Memo}
use Rattle.core_constraints.specs.declared.memo.Validation.{Validation}
use Rattle.core_constraints.specs.declared.result_rows.ResultRow.{ResultRow}
use Rattle.core_constraints.specs.Findings.{same_validation, IsTruthful, shapes_of, data_of}
use Rattle.core_constraints.specs.Rows.{row_cmp, AreRowsOf}
use Rattle.core_constraints.proofs.MemoLaws.{same_is}
use Rattle.core_constraints.proofs.Opened.{IsRanked}
use Rattle.core_constraints.proofs.Ranked.{ranked}
use Rattle.core_constraints.proofs.RowOrder.{sorted_rows, kept_rows}
use Rattle.core_constraints.proofs.SomeRows.{some_rows}
use Rattle.core_constraints.proofs.ValidationEquality.{validation_laws}
use Rattle.core_constraints.proofs.ValidationLaws.{shape_count, node_count, focus_numbered, validations_bound, IsValidated, validated_start, validated_next, validated_end}
use Rattle.core_constraints.proofs.validation.results.Goals as goal

-- where nothing was found, nothing wrong was
truthful_new : (i : Input) (m : Memo) → ((v : Validation) → get same_validation m.verdicts v ≡ None) → ((n : ℕ) → get nat_eq m.classes n ≡ None) → IsTruthful i m
truthful_new i m none no_class = record { verdict = λ v b e. absurd (not_missing b (sym (none v) ∙ e)); subclasses = λ n ns e. absurd (not_missing ns (sym (no_class n) ∙ e)) }

less : (n f m : ℕ) → n < f → f ≤ m → m - (n + 1) < m - n
less n f m l k = omega (arith, l, k)

results_of : (i : Input) (s g : Graph) (rows : List ResultRow) → i.shapes.now ≡ s → i.graph.graph ≡ g → AreRowsOf (IsResult (shapes_of i) (data_of i)) rows → AreRowsOf (IsResult s g) rows
results_of i s g rows e d a = subst (λ t. AreRowsOf (IsResult t g) rows) e (subst (λ t. AreRowsOf (IsResult (shapes_of i) t) rows) d a)

pub focus_validations-requires : goal.focus_validations-requires
focus_validations-requires c =
    let n = c.in_ok-input.ensures in
    focus_numbered c.in_ok-input.input c.args.shapes.now c.args.graph.now c.in_ok-input.ensures.shapes c.in_ok-input.ensures.graph c.in_ok-input.ensures.focus

pub validating-init : goal.validating-init
validating-init c =
    let i = c.in_ok-input.input in
    let vs = c.in_ok-validations.validations.keys in
    record {
      validated = subst (λ (rows : List ResultRow). IsValidated i vs rows 0) (sym c.new-rows.ensures) (validated_start i vs c.in_ok-validations.ensures);
      truthful = truthful_new i c.new-memo.result c.new-memo.ensures.verdicts c.new-memo.ensures.classes;
    }

pub validate-requires-clause-shape : goal.validate-requires-clause-shape
validate-requires-clause-shape c =
    let vs = c.validating.validations.keys in
    let l : c.validating.next < length vs = let e = c.len.ensures.len in omega (arith, c.validating-test.true, e) in
    (c.validating.invariant.validated.within _ (subst (λ (us : List Validation). Contains vs (get_or us c.validating.next (record { shape = 0; node = 0 }))) (sym c.as_slice.ensures.keys) (at_place vs c.validating.next (record { shape = 0; node = 0 }) l))).0

pub validate-requires-clause-node : goal.validate-requires-clause-node
validate-requires-clause-node c =
    let vs = c.validating.validations.keys in
    let l : c.validating.next < length vs = let e = c.len.ensures.len in omega (arith, c.validating-test.true, e) in
    (c.validating.invariant.validated.within _ (subst (λ (us : List Validation). Contains vs (get_or us c.validating.next (record { shape = 0; node = 0 }))) (sym c.as_slice.ensures.keys) (at_place vs c.validating.next (record { shape = 0; node = 0 }) l))).1

pub validating-smaller : goal.validating-smaller
validating-smaller c =
    let i = c.in_ok-input.input in
    let vs = c.validating.validations.keys in
    let l : c.validating.next < length vs = let e = c.len.ensures.len in omega (arith, c.validating-test.true, e) in
    less c.validating.next (length vs) (shape_count i * node_count i) l (validations_bound i same_validation validation_laws same_is vs c.len.ensures.unique c.validating.invariant.validated.within)

pub validating-preserved : goal.validating-preserved
validating-preserved c =
    let i = c.in_ok-input.input in
    let vs = c.validating.validations.keys in
    let next = c.validating.next in
    let v : Validation = get_or c.as_slice.result.now next (record { shape = 0; node = 0 }) in
    let l : next < length vs = let e = c.len.ensures.len in omega (arith, c.validating-test.true, e) in
    let at : slice_get vs next ≡ Some v = slice_get-get_or vs next (record { shape = 0; node = 0 }) l ∙ ap (λ (us : List Validation). Some (get_or us next (record { shape = 0; node = 0 }))) (sym c.as_slice.ensures.keys) in
    record {
      validated = validated_next i v vs c.validate.new.validations.keys c.validating.rows c.validate.new.rows next c.validating.invariant.validated at c.in_ok-validate.ensures.validations c.in_ok-validate.ensures.rows;
      truthful = c.in_ok-validate.ensures.truthful;
    }

pub returns-clause-sorted : goal.returns-clause-sorted
returns-clause-sorted c =
    subst (IsStrictlySortedBy row_cmp) (sym c.from_vec.ensures) (sorted_rows c.sort_unstable.new.self.items c.dedup.new.self.items c.sort_unstable.ensures.sorted c.dedup.ensures.filtered)

pub returns-clause-exact : goal.returns-clause-exact
returns-clause-exact c =
    let i = c.in_ok-input.input in
    let s = c.args.shapes.now in
    let g = c.args.graph.now in
    let rows = c.validating.rows in
    let vs = c.validating.validations.keys in
    let l : length vs ≤ c.validating.next = let e = c.len.ensures.len in omega (arith, c.validating-test.false, e) in
    let found : AreRowsOf (IsResult s g) rows = results_of i s g rows c.in_ok-input.ensures.shapes c.in_ok-input.ensures.graph (validated_end i (subst IsRanked (sym c.in_ok-input.ensures.shapes) (ranked s c.triples-triples.ensures.profile)) vs rows c.validating.next c.validating.invariant.validated l) in
    subst (AreRowsOf (IsResult s g)) (sym c.from_vec.ensures)
    (kept_rows (IsResult s g) c.into_vec-sorted.result.items c.sort_unstable.new.self.items c.dedup.new.self.items c.sort_unstable.ensures.permutation c.dedup.ensures.filtered (subst (AreRowsOf (IsResult s g)) (sym c.into_vec-sorted.ensures) found))

pub returns-clause-some : goal.returns-clause-some
returns-clause-some c =
    let i = c.in_ok-input.input in
    let s = c.args.shapes.now in
    let g = c.args.graph.now in
    some_rows s g c.triples-triples.ensures.profile (terms i.graph.nodes) (λ n x f. term_listed i.graph.nodes x (c.in_ok-input.ensures.focus n x f)) c.from_vec.result (returns-clause-exact c)
