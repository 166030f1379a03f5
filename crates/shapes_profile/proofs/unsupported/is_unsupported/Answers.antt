use Rattle.shapes_profile.specs.Profile.{unsupported}
use Rattle.shapes_profile.proofs.unsupported.is_unsupported.Goals as goal

pub returns : goal.returns
unfolding unsupported
returns c = c.is_one_of.ensures
