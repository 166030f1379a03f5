use Rattle.std.proofs.Common.{◌≡◌, map, take}
use Rattle.premise_rules.specs.RuleClauses.{unchanged}
use Rattle.premise_rules.proofs.rule_parts.undo_parts.Given as goal

abbrev pub invariant-pair : goal.invariant-pair
invariant-pair l = l.list ≡ map (unchanged l.problem) (take l.t-index l.pair)
