use Rattle.std.proofs.Common.{List, ℕ, [], get_or, Contains, sym, ◌∙◌, subst, take_all}
use Rattle.std.proofs.lemmas.List.{get_or_default}
use Rattle.rdf_terms.proofs.Members.{in_none}
use Rattle.path_eval.proofs.Found.{at_place}
use Rattle.core_constraints.specs.Findings.{shapes_of, term_of, AreValueNodes}
use Rattle.core_constraints.specs.RowLists.{Gains}
use Rattle.core_constraints.specs.Validations.{Adds, IsNested, IsRowAt}
use Rattle.core_constraints.proofs.Ranked.{ranked}
use Rattle.core_constraints.proofs.ValidationLaws.{OfSome, gains_none, gains_more, adds_none, adds_more, values_at, follow_all, follow_none, own_rows, own_rows_none}
use Rattle.core_constraints.proofs.validation.validate.Goals as goal

pub returns-then-deactivated-clause-rows : goal.returns-then-deactivated-clause-rows
returns-then-deactivated-clause-rows c =
    let i = c.args.input.now in
    let v = c.args.validation in
    own_rows_none i v.shape (term_of i v.node) c.args.rows.now (sym c.deactivated.ensures ∙ c.if-deactivated.true)

pub returns-then-deactivated-clause-validations : goal.returns-then-deactivated-clause-validations
returns-then-deactivated-clause-validations c =
    follow_none c.args.input.now c.args.validation c.args.validations.now.keys (sym c.deactivated.ensures ∙ c.if-deactivated.true)

pub places-init : goal.places-init
places-init c =
    let i = c.args.input.now in
    let x = term_of i c.args.validation.node in
    record {
      rows_gained = gains_none c.args.rows.now (λ r. OfSome [] (λ q. IsRowAt i q x r)) (λ r h. in_none h.0 h.1);
      added = adds_none c.args.validations.now.keys (λ v. OfSome [] (λ q. IsNested (shapes_of i) q v.shape × Contains c.in_ok-values.values.items v.node)) (λ v h. in_none h.0 h.1);
      truthful = c.requires.truthful;
    }

pub validate_at-requires : goal.validate_at-requires
validate_at-requires c =
    let i = c.args.input.now in
    let v = c.args.validation in
    let ps = c.constraints_of-place-items.result.now in
    let k = c.places.place-index in
    record {
      place = c.constraints_of-place-items.ensures.within k 0 c.places-test.true;
      node = c.requires.node;
      values = values_at i (ranked (shapes_of i) c.triples-triples.ensures.profile) v.shape v.node (get_or ps k 0) ps c.as_slice.result.now c.constraints_of-place-items.ensures.places (at_place ps k 0 c.places-test.true)
          (subst (λ (ns : List ℕ). AreValueNodes i v.shape v.node ns) (sym c.as_slice.ensures.value) c.in_ok-values.ensures);
      truthful = c.places.invariant.truthful;
    }

pub places-preserved : goal.places-preserved
places-preserved c =
    let i = c.args.input.now in
    let x = term_of i c.args.validation.node in
    let ps = c.constraints_of-place-items.result.now in
    let k = c.places.place-index in
    let p = get_or ps k 0 in
    let values = c.in_ok-values.values.items in
    record {
      rows_gained = gains_more c.args.rows.now c.places.rows c.validate_at.new.rows (λ q r. IsRowAt i q x r) ps k p c.places-test.true (get_or_default ps k 0 p c.places-test.true) c.places.invariant.rows_gained c.in_ok-validate_at.ensures.rows;
      added = adds_more c.args.validations.now.keys c.places.validations.keys c.validate_at.new.validations.keys (λ q v. IsNested (shapes_of i) q v.shape × Contains values v.node) ps k p c.places-test.true (get_or_default ps k 0 p c.places-test.true) c.places.invariant.added
          (subst (λ (ns : List ℕ). Adds c.places.validations.keys c.validate_at.new.validations.keys (λ v. IsNested (shapes_of i) p v.shape × Contains ns v.node)) c.as_slice.ensures.value c.in_ok-validate_at.ensures.validations);
      truthful = c.in_ok-validate_at.ensures.truthful;
    }

pub returns-clause-rows : goal.returns-clause-rows
returns-clause-rows c =
    let i = c.args.input.now in
    let v = c.args.validation in
    let x = term_of i v.node in
    let ps = c.constraints_of-place-items.result.now in
    own_rows i (ranked (shapes_of i) c.triples-triples.ensures.profile) v.shape x c.args.rows.now c.places.rows ps c.constraints_of-place-items.ensures.places (sym c.deactivated.ensures ∙ c.if-deactivated.false)
    (subst (λ (qs : List ℕ). Gains c.args.rows.now (λ r. OfSome qs (λ q. IsRowAt i q x r)) c.places.rows) (take_all c.places.place-index ps c.places-test.false) c.places.invariant.rows_gained)

pub returns-clause-validations : goal.returns-clause-validations
returns-clause-validations c =
    let i = c.args.input.now in
    let v = c.args.validation in
    let ps = c.constraints_of-place-items.result.now in
    let values = c.in_ok-values.values.items in
    follow_all i v c.args.validations.now.keys c.places.validations.keys ps values c.constraints_of-place-items.ensures.places (sym c.deactivated.ensures ∙ c.if-deactivated.false) c.in_ok-values.ensures
    (subst (λ (qs : List ℕ). Adds c.args.validations.now.keys c.places.validations.keys (λ u. OfSome qs (λ q. IsNested (shapes_of i) q u.shape × Contains values u.node))) (take_all c.places.place-index ps c.places-test.false) c.places.invariant.added)
