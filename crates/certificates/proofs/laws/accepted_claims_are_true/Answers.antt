use Rattle.std.proofs.Common.{subst}
use Rattle.shapes_profile.specs.Profile.{IsInProfile}
use Rattle.certificates.proofs.Law.{accepted_shown}
use Rattle.certificates.proofs.laws.accepted_claims_are_true.Goals as goal

pub returns : goal.returns
returns c = accepted_shown c.args.problem.now (subst IsInProfile c.shapes.ensures c.triples-triples.ensures.profile) c.offers-offers.ensures.apart
