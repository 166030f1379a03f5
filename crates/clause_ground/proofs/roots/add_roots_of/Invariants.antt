use Rattle.std.proofs.Common.{ℕ, ◌<◌, get_or}
use Rattle.atom_parts.specs.PartLiterals.{In}
use Rattle.clause_ground.specs.Needed.{root}
use Rattle.clause_ground.specs.Growth.{Grows, found}
use Rattle.clause_ground.specs.Premises.{rules_of}
use Rattle.clause_ground.proofs.roots.add_roots_of.Given as goal

abbrev pub invariant-nodes : goal.invariant-nodes
invariant-nodes l = record {
  grows : Grows l.fn.problem (found l.fn.ground.premises l.fn.ground.atoms.keys) (found l.ground.premises l.ground.atoms.keys);
  made : (k : ℕ) → k < l.x-index → In (rules_of l.ground.premises) (root l.s (get_or l.x-items k 0));
}
