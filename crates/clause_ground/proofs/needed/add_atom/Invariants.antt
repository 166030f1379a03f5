use Rattle.clause_ground.specs.Growth.{Grows, found}
use Rattle.clause_ground.specs.Premises.{rules_of}
use Rattle.clause_ground.proofs.Working.{MadeBelow}
use Rattle.clause_ground.proofs.needed.add_atom.Given as goal

abbrev pub invariant-clauses : goal.invariant-clauses
invariant-clauses l = record {
  grows : Grows l.fn.rules (found l.fn.ground.premises l.fn.ground.atoms.keys) (found l.ground.premises l.ground.atoms.keys);
  made : MadeBelow l.fn.rules l.atom l.place (rules_of l.ground.premises);
}
