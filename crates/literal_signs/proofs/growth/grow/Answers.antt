use Rattle.std.proofs.Common.{◌≡◌, ◌≤◌, ◌+◌, ap, length, arith, sym}
use Rattle.std.proofs.lemmas.Grind.{common_steps}
use Rattle.literal_signs.specs.Marked.{absents, marked_set}
use Rattle.literal_signs.proofs.Grown.{grown, absents_grown}
use Rattle.literal_signs.proofs.growth.grow.Goals as goal

pub returns-in_err-resize-clause-marked : goal.returns-in_err-resize-clause-marked
returns-in_err-resize-clause-marked c = ap (λ s. marked_set s) c.in_err-resize.ensures.items

pub returns-clause-marked : goal.returns-clause-marked
returns-clause-marked c =
    let longer : length c.args.signs.now.items ≤ c.args.vars = grind (arith, common_steps) in
    grown c.args.signs.now.items c.resize.new.self.items c.args.vars _ longer c.in_ok-resize.ensures.items

pub returns-clause-absents : goal.returns-clause-absents
returns-clause-absents c =
    let longer : length c.args.signs.now.items ≤ c.args.vars = grind (arith, common_steps) in
    absents_grown c.args.signs.now.items c.resize.new.self.items c.args.vars _ longer c.in_ok-resize.ensures.items
