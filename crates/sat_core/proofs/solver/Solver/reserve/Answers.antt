use Rattle.sat_core.proofs.Reserved.{kept_grown}
use Rattle.sat_core.proofs.solver.Solver.reserve.Goals as goal

pub invariant_of-self : goal.invariant_of-self
invariant_of-self g c =
    kept_grown _ c.self.inside.trail.items c.self.inside.starts.items c.self.inside.steps c.self.inside.signs.items c.make_room_for.new.signs.items c.make_room_for.ensures.marked c.make_room_for.ensures.absents c.make_room_for.ensures.longer c.self.invariant

pub invariant_of-self-2 : goal.invariant_of-self-2
invariant_of-self-2 g c =
    kept_grown _ c.self.inside.trail.items c.self.inside.starts.items c.self.inside.steps c.self.inside.signs.items c.make_room_for.new.signs.items c.make_room_for.ensures.marked c.make_room_for.ensures.absents c.make_room_for.ensures.longer c.self.invariant
