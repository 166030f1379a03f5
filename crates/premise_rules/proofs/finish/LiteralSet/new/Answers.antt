use Rattle.std.proofs.Common.{sym, ap, subst}
use Rattle.std.specs.HashMap.{get}
use Rattle.std.specs.Map.{lookup}
use Rattle.premise_rules.specs.Literals.{same_atom}
use Rattle.premise_rules.specs.LiteralSets.{AreSigns}
use Rattle.premise_rules.proofs.DistinctLiterals.{no_signs}
use Rattle.premise_rules.proofs.finish.LiteralSet.new.Goals as goal

pub returns-clause-signs : goal.returns-clause-signs
returns-clause-signs c =
    subst (λ ls. AreSigns ls (λ a. get same_atom c.new-2.result a)) (sym c.new.ensures)
    (no_signs (λ a. get same_atom c.new-2.result a) (λ a. ap (lookup (same_atom a)) c.new-2.ensures.empty))
