use Rattle.clause_ground.specs.Growth.{Grows, found}
use Rattle.clause_ground.specs.Premises.{rules_of}
use Rattle.clause_ground.specs.RootClauses.{RootsBelow}
use Rattle.clause_ground.proofs.roots.add_roots.Given as goal

abbrev pub invariant-shapes : goal.invariant-shapes
invariant-shapes l = record {
  grows : Grows l.fn.problem (found l.fn.ground.premises l.fn.ground.atoms.keys) (found l.ground.premises l.ground.atoms.keys);
  made : RootsBelow l.fn.problem l.s (rules_of l.ground.premises);
}
