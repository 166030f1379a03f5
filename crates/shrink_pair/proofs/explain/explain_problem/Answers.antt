use Rattle.std.proofs.Common.{◌≡◌, ◌≤◌, length, refl, sym, ap, subst}
use Rattle.clause_ground.specs.Grounds.{atoms, premises}
use Rattle.shrink_pair.specs.Sessions.{State, state_of}
use Rattle.shrink_pair.proofs.Searched.{assigned_there, once_there, few_pairs, smaller_there, next_there, refuted_there, spent_there}
use Rattle.shrink_pair.proofs.explain.explain_problem.Goals as goal

pub descend-requires-clause-assigned : goal.descend-requires-clause-assigned
descend-requires-clause-assigned c =
    let g = c.in_ok-ground.ground in
    let new = c.search.new.self in
    assigned_there c.args.problem.now c.accepted_claims_are_true.ensures (atoms g) (premises g) c.in_ok-ground.ensures.apart c.args.budget (state_of c.searches.session) (state_of new) new.solver c.searches.invariant.session c.in_ok-ground.ensures.needed c.in_ok-search.field-0 c.in-Model.is c.in_ok-search.ensures refl

pub descend-requires-clause-once : goal.descend-requires-clause-once
descend-requires-clause-once c =
    let g = c.in_ok-ground.ground in
    let new = c.search.new.self in
    once_there c.args.problem.now c.accepted_claims_are_true.ensures (atoms g) (premises g) c.in_ok-ground.ensures.apart c.args.budget (state_of c.searches.session) (state_of new) new.solver c.searches.invariant.session c.in_ok-ground.ensures.needed c.in_ok-search.field-0 c.in-Model.is c.in_ok-search.ensures refl
    c.in_ok-ground.ensures.explanations

pub descend-requires-clause-pairs : goal.descend-requires-clause-pairs
descend-requires-clause-pairs c =
    let g = c.in_ok-ground.ground in
    let new = c.search.new.self in
    few_pairs c.args.problem.now c.accepted_claims_are_true.ensures (atoms g) (premises g) c.in_ok-ground.ensures.apart c.args.budget (state_of c.searches.session) (state_of new) new.solver c.searches.invariant.session c.in_ok-ground.ensures.needed c.in_ok-search.field-0 c.in-Model.is c.in_ok-search.ensures refl

pub searches-smaller : goal.searches-smaller
searches-smaller c =
    let g = c.in_ok-ground.ground in
    let new = c.search.new.self in
    smaller_there c.args.problem.now c.accepted_claims_are_true.ensures (atoms g) (premises g) c.in_ok-ground.ensures.apart c.args.budget (state_of c.searches.session) (state_of new) new.solver c.searches.invariant.session c.in_ok-ground.ensures.needed c.in_ok-search.field-0 c.in-Model.is c.in_ok-search.ensures refl
    (state_of c.descend.new.self) c.in_ok-descend-in-Model.ensures

pub searches-preserved : goal.searches-preserved
searches-preserved c =
    let g = c.in_ok-ground.ground in
    let new = c.search.new.self in
    record {
      session =
          next_there c.args.problem.now c.accepted_claims_are_true.ensures (atoms g) (premises g) c.in_ok-ground.ensures.apart c.args.budget (state_of c.searches.session) (state_of new) new.solver c.searches.invariant.session c.in_ok-ground.ensures.needed c.in_ok-search.field-0 c.in-Model.is c.in_ok-search.ensures refl
          c.in_ok-ground.ensures.explanations (state_of c.descend.new.self) c.in_ok-descend-in-Model.ensures;
      bound = subst (λ (t : State). length t.log ≤ c.args.budget) (sym c.in_ok-descend-in-Model.ensures) c.in_ok-search.ensures.bound;
    }

pub returns-in-Refuted : goal.returns-in-Refuted
returns-in-Refuted c =
    let g = c.in_ok-ground.ground in
    let new = c.search.new.self in
    refuted_there c.args.problem.now c.accepted_claims_are_true.ensures (atoms g) (premises g) c.in_ok-ground.ensures.apart c.args.budget (state_of c.searches.session) (state_of new) new.solver c.searches.invariant.session c.in_ok-search.field-0 c.in-Refuted.is c.in_ok-search.ensures refl
    c.into_refutation.result c.into_refutation.ensures.claim c.into_refutation.ensures.lines

pub returns-in-Spent : goal.returns-in-Spent
returns-in-Spent c =
    let g = c.in_ok-ground.ground in
    let new = c.search.new.self in
    spent_there c.args.problem.now c.accepted_claims_are_true.ensures (atoms g) (premises g) c.in_ok-ground.ensures.apart c.args.budget (state_of c.searches.session) (state_of new) new.solver c.searches.invariant.session c.fresh_proofs_are_bounded.ensures c.in_ok-search.field-0 c.in-Spent.is c.in_ok-search.ensures refl refl
    c.into_spent.result c.into_spent.ensures.claim c.into_spent.ensures.lines
