use Rattle.std.proofs.Common.{◌∙◌}
use Rattle.refute_check.proofs.marks.Marks.reserve.Goals as goal

pub invariant_of-self : goal.invariant_of-self
invariant_of-self c = c.grow.ensures.marked ∙ c.self.invariant
