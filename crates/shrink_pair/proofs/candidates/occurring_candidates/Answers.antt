use Rattle.std.proofs.Common.{◌≡◌, ◌+◌, Some, None, sym, ◌∙◌, subst}
use Rattle.rdf_navigation.proofs.PropertyLaws.{none_of}
use Rattle.clause_ground.specs.Grounds.{atoms}
use Rattle.shrink_pair.specs.Sessions.{IsCandidateAt, AreNumbered}
use Rattle.shrink_pair.proofs.Begun.{numbered_more, numbered_same}
use Rattle.shrink_pair.proofs.candidates.occurring_candidates.Goals as goal
use Rattle.shrink_pair.proofs.candidates.occurring_candidates.Goals.{in-Some+in_ok-push, in_default}

pub candidates-preserved : goal.candidates-preserved
candidates-preserved c =
    let s = c.args.problem.now in
    let ats = atoms c.args.ground.now in
    let k = c.candidates.t in
    let old = c.candidates.found.items in
    elim c.match-candidate_at.branch [
      | in-Some+in_ok-push w ↦ numbered_more s ats k old c.match-candidate_at.found.items w.in-Some.candidate c.candidates.invariant (subst (IsCandidateAt s ats k) w.in-Some.is c.candidate_at.ensures) ((λ j. (w.found-is j).items) ∙ w.in_ok-push.ensures.items)
      | in_default w ↦ subst (AreNumbered s ats (k + 1)) (sym (λ j. (w.found-is j).items)) (numbered_same s ats k old c.candidates.invariant (subst (IsCandidateAt s ats k) (none_of c.candidate_at.result w.in_default.not-Some) c.candidate_at.ensures))
    ]
