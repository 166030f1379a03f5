use Rattle.std.proofs.Common.{◌≡◌, [], ◌∷◌, sym, ap, ◌∙◌, subst}
use Rattle.sat_core.specs.Solving.{HasEmpty}
use Rattle.clause_ground.specs.Grounds.{premises}
use Rattle.shrink_pair.specs.Sessions.{State, state_of, premise, with_premises}
use Rattle.shrink_pair.proofs.Listed.{at_in, full_more, premise_at, premises_next}
use Rattle.shrink_pair.proofs.session.Session.push_premises.Goals as goal

pub push_premise-requires-clause-once : goal.push_premise-requires-clause-once
push_premise-requires-clause-once c =
    let ps = premises c.args.ground.now in
    let p = premise c.rule.result.now c.clause.result.now in
    (c.requires.proper p (at_in ps c.premises.r p (premise_at ps c.premises.r c.rule.result.now c.clause.result.now c.rule.ensures c.clause.ensures))).1

pub premises-preserved : goal.premises-preserved
premises-preserved c =
    let ps = premises c.args.ground.now in
    let k = c.premises.r in
    let q = c.rule.result.now in
    let lits = c.clause.result.now in
    let old = state_of c.premises.self in
    let new = state_of c.push_premise.new.self in
    let p = premise q lits in
    let e : new ≡ with_premises old (premise q lits ∷ []) = c.in_ok-push_premise.ensures ∙ ap (λ r. with_premises old (premise r lits ∷ [])) c.in_ok-rule.ensures in
    record {
      state = premises_next (state_of c.args.self.now) old new ps k q lits c.rule.ensures c.clause.ensures c.premises.invariant.state e;
      full = subst (λ (t : State). ¬ (HasEmpty t.clauses)) (sym e) (full_more old.clauses lits c.premises.invariant.full (c.requires.proper p (at_in ps k p (premise_at ps k q lits c.rule.ensures c.clause.ensures))).0);
    }
