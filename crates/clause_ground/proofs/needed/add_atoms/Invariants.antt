use Rattle.std.proofs.Common.{◌≡◌, ◌-◌, ◌^◌}
use Rattle.clause_ground.specs.Growth.{Grows, IsClosedTo, found}
use Rattle.clause_ground.proofs.needed.add_atoms.Given as goal

abbrev pub invariant-working : goal.invariant-working
invariant-working l = record {
  grows : Grows l.fn.rules (found l.fn.ground.premises l.fn.ground.atoms.keys) (found l.ground.premises l.ground.atoms.keys);
  closed : IsClosedTo l.fn.rules l.next (found l.ground.premises l.ground.atoms.keys);
  same : l.rules ≡ l.fn.rules;
}

abbrev pub decreases-working : goal.decreases-working
decreases-working l = 2 ^ 64 - l.next
