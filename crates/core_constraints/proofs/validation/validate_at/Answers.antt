use Rattle.std.proofs.Common.{◌≡◌, Some, Contains, sym}
use Rattle.path_eval.proofs.GrowthLaws.{on_ok}
use Rattle.shapes_graph.specs.Constraints.{constraint_at}
use Rattle.core_constraints.specs.Findings.{shapes_of, term_of}
use Rattle.core_constraints.specs.Validations.{IsNested, IsRowAt}
use Rattle.core_constraints.proofs.Ranked.{ranked}
use Rattle.core_constraints.proofs.ValidationLaws.{gains_none, adds_none, adds_same, row_at, row_at_none, row_at_nested, nested_at, nested_none, nested_other}
use Rattle.core_constraints.proofs.validation.validate_at.Goals as goal

pub constraint-requires : goal.constraint-requires
constraint-requires c = c.requires.place

pub returns-in-Property-clause-rows : goal.returns-in-Property-clause-rows
returns-in-Property-clause-rows c =
    let i = c.args.input.now in
    let x = term_of i c.args.node in
    on_ok c.push_validations.result _ _ c.push_validations.ensures
    (λ _. gains_none c.args.rows.now (IsRowAt i c.args.place x) (row_at_nested i c.args.place c.in-Property.shape x c.in-Some.constraint.now (sym c.in-Some.ensures.value) c.in-Property.is))

pub returns-in-Property-clause-validations : goal.returns-in-Property-clause-validations
returns-in-Property-clause-validations c =
    let i = c.args.input.now in
    let values = c.args.values.now in
    on_ok c.push_validations.result _ _ c.push_validations.ensures
    (λ a. adds_same c.args.validations.now.keys c.push_validations.new.validations.keys (λ v. (c.in-Property.shape ≡ v.shape) × Contains values v.node) (λ v. IsNested (shapes_of i) c.args.place v.shape × Contains values v.node)
    (nested_at i c.args.place c.in-Property.shape c.in-Some.constraint.now (sym c.in-Some.ensures.value) c.in-Property.is values) a)

pub push_constraint_rows-requires : goal.push_constraint_rows-requires
push_constraint_rows-requires c =
    let i = c.args.input.now in
    let e = sym c.in-Some.ensures.value in
    record {
      stated = (ranked (shapes_of i) c.triples-triples.ensures.profile).stated c.args.place c.in-Some.constraint.now e;
      node = c.requires.node;
      values = c.requires.values c.in-Some.constraint.now e;
      truthful = c.requires.truthful;
    }

pub returns-in_default : goal.returns-in_default
returns-in_default c =
    let i = c.args.input.now in
    let con = c.in-Some.constraint.now in
    let e : constraint_at (shapes_of i) c.args.place ≡ Some con = sym c.in-Some.ensures.value in
    let values = c.args.values.now in
    record {
      rows = on_ok c.push_constraint_rows.result _ _ c.push_constraint_rows.ensures.rows (λ a. row_at i c.args.place (term_of i c.args.node) con c.args.rows.now c.push_constraint_rows.new.rows e a);
      validations = on_ok c.push_constraint_rows.result _ _ c.push_constraint_rows.ensures.rows
          (λ _. adds_none c.args.validations.now.keys (λ v. IsNested (shapes_of i) c.args.place v.shape × Contains values v.node) (nested_other i c.args.place con e (λ u k. c.in_default.not-Property u k) values));
      truthful = c.push_constraint_rows.ensures.truthful;
    }

pub returns-in-None-clause-rows : goal.returns-in-None-clause-rows
returns-in-None-clause-rows c =
    let i = c.args.input.now in
    gains_none c.args.rows.now (IsRowAt i c.args.place (term_of i c.args.node)) (row_at_none i c.args.place (term_of i c.args.node) (sym c.in-None.ensures.value))

pub returns-in-None-clause-validations : goal.returns-in-None-clause-validations
returns-in-None-clause-validations c =
    let i = c.args.input.now in
    let values = c.args.values.now in
    adds_none c.args.validations.now.keys (λ v. IsNested (shapes_of i) c.args.place v.shape × Contains values v.node) (nested_none i c.args.place (sym c.in-None.ensures.value) values)
