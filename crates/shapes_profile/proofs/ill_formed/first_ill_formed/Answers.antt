use Rattle.std.proofs.Common.{◌≡◌, ◌≤◌, List, length, sym, ap, subst, ◌∙◌, arith}
use Rattle.std.specs.Prelude.{Some, slice_get}
use Rattle.rdf_terms.specs.declared.term.Term.{Term}
use Rattle.rdf_terms.proofs.Sets.{get_at}
use Rattle.shapes_profile.specs.Shapes.{shape_terms}
use Rattle.shapes_profile.specs.IllFormed.{IsIllFormed}
use Rattle.shapes_profile.proofs.Firsts.{none_next, none_all, first_at}
use Rattle.shapes_profile.proofs.RuleLaws.{smallest_rule, ill_formed, well_formed}
use Rattle.shapes_profile.proofs.ill_formed.first_ill_formed.Goals as goal

pub returns-in-Some-clause-some : goal.returns-in-Some-clause-some
returns-in-Some-clause-some c =
    let s = c.args.shapes.now in
    let x = c.shape-item.result in
    let there = subst (λ (ts : List Term). slice_get ts c.seeking.shape-index ≡ Some x) c.as_slice-shape-items.ensures (get_at c.as_slice-shape-items.result.now c.seeking.shape-index x c.seeking-test.true c.shape-item.is) in
    first_at (IsIllFormed s) (shape_terms s) c.seeking.shape-index x c.seeking.invariant there (ill_formed s x c.in-Some.rule (sym c.in_ok-rule.ensures ∙ c.in-Some.is))

pub returns-in-Some-clause-rule : goal.returns-in-Some-clause-rule
returns-in-Some-clause-rule c = smallest_rule c.args.shapes.now c.shape-item.result c.in-Some.rule (sym c.in_ok-rule.ensures ∙ c.in-Some.is)

pub seeking-preserved : goal.seeking-preserved
seeking-preserved c =
    let s = c.args.shapes.now in
    let x = c.shape-item.result in
    let there = subst (λ (ts : List Term). slice_get ts c.seeking.shape-index ≡ Some x) c.as_slice-shape-items.ensures (get_at c.as_slice-shape-items.result.now c.seeking.shape-index x c.seeking-test.true c.shape-item.is) in
    none_next (IsIllFormed s) (shape_terms s) c.seeking.shape-index x c.seeking.invariant there (well_formed s x (sym c.in_ok-rule.ensures ∙ c.in_default.is))

pub returns-clause-none : goal.returns-clause-none
returns-clause-none c =
    let s = c.args.shapes.now in
    let end : length (shape_terms s) ≤ c.seeking.shape-index = omega (arith, c.seeking-test.false, ap length c.as_slice-shape-items.ensures) in
    none_all (IsIllFormed s) (shape_terms s) c.seeking.shape-index end c.seeking.invariant
