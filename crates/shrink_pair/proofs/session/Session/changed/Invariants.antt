use Rattle.std.proofs.Common.{◌≡◌, not, filter, take}
use Rattle.sat_core.specs.Solving.{assigned}
use Rattle.shrink_pair.specs.Sessions.{is_changed}
use Rattle.shrink_pair.proofs.session.Session.changed.Given as goal

abbrev pub invariant-candidates : goal.invariant-candidates
invariant-candidates l = l.found.items ≡ filter (is_changed (assigned l.self.solver)) (take l.candidate-index l.self.changeable.items)
