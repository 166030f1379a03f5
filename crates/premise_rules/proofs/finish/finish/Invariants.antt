use Rattle.std.proofs.Common.{take}
use Rattle.std.specs.HashMap.{get}
use Rattle.premise_rules.specs.Literals.{same_atom}
use Rattle.premise_rules.specs.LiteralSets.{AreSigns}
use Rattle.premise_rules.proofs.AnsweredLiterals.{Finished}
use Rattle.premise_rules.proofs.finish.finish.Given as goal

abbrev pub invariant-parts : goal.invariant-parts
invariant-parts l = record {
  signs : AreSigns l.literals.list (λ a. get same_atom l.literals.signs a);
  passed : Finished (take l.part-index l.parts) l.literals.list;
}
