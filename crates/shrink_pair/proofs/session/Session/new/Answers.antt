use Rattle.std.proofs.Common.{◌≡◌, length, sym, ap, ◌∙◌, subst}
use Rattle.shapes_profile.specs.Profile.{IsInProfile}
use Rattle.clause_ground.specs.Grounds.{atoms, premises}
use Rattle.repair_problem.specs.Candidates.{candidates}
use Rattle.shrink_pair.specs.Sessions.{State, state_of, started, with_premises, IsSession}
use Rattle.shrink_pair.proofs.Begun.{begun, proper}
use Rattle.shrink_pair.proofs.session.Session.new.Goals as goal

pub push_premises-requires-clause-proper : goal.push_premises-requires-clause-proper
push_premises-requires-clause-proper c =
    let profile : IsInProfile c.args.problem.now.shapes = subst IsInProfile c.shapes.ensures c.triples-triples.ensures.profile in
    proper c.args.problem.now profile c.offers-offers.ensures.apart (atoms c.args.ground.now) (premises c.args.ground.now) c.requires.needed

pub returns-clause-session : goal.returns-clause-session
returns-clause-session c =
    let s = c.args.problem.now in
    let ats = atoms c.args.ground.now in
    let ps = premises c.args.ground.now in
    let cs = c.in_ok-occurring_candidates.field-0.items in
    let e : state_of c.push_premises.new.self ≡ with_premises (started cs) ps = c.in_ok-push_premises.ensures ∙ ap (λ (t : State). with_premises t ps) c.in_ok-session.ensures in
    subst (IsSession s ats ps) (sym e) (begun s ats ps c.requires.needed cs c.in_ok-occurring_candidates.ensures)
