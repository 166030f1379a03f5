use Rattle.std.proofs.Common.{subst}
use Rattle.shapes_profile.specs.Profile.{IsInProfile}
use Rattle.certificates.proofs.Verdict.{verdict_shown, verdict_not}
use Rattle.certificates.proofs.check.check_document_in.Goals as goal

pub returns-clause-shown : goal.returns-clause-shown
returns-clause-shown g c = verdict_shown c.args.problem.now c.args.text.now (subst IsInProfile c.shapes.ensures c.triples-triples.ensures.profile) c.offers-offers.ensures.apart c.judge.result c.judge.ensures

pub returns-clause-not_accepted : goal.returns-clause-not_accepted
returns-clause-not_accepted g c = verdict_not c.args.problem.now c.args.text.now c.judge.result c.judge.ensures
