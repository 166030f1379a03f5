use Rattle.shrink_pair.specs.Sessions.{state_of}
use Rattle.shrink_pair.proofs.Listed.{outside_next, premise_full}
use Rattle.shrink_pair.proofs.session.Session.push_outside.Goals as goal

pub candidates-preserved : goal.candidates-preserved
candidates-preserved c =
    let old = state_of c.candidates.self in
    let new = state_of c.push_premise.new.self in
    record {
      state = outside_next (state_of c.args.self.now) old new c.args.pair c.args.left.now c.candidates.candidate-index _ _ c.candidates-test.true c.candidates.invariant.state c.in_ok-rule.ensures c.in_ok-push_premise.ensures;
      full = premise_full old new _ _ c.candidates.invariant.full c.in_ok-push_premise.ensures;
    }
