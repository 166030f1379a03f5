use Rattle.std.proofs.Common.{subst, IfOk, IfSome}
use Rattle.repair_problem.specs.Setting.{Setting}
use Rattle.path_levels.proofs.MeantParts.{Mean}
use Rattle.path_levels.proofs.parts.path_parts.Goals as goal

pub returns-clause-means : goal.returns-clause-means
returns-clause-means c =
    subst (λ (s : Setting). IfOk c.path_parts.result (λ o. IfSome o (λ parts. Mean s c.args.atom.now parts))) c.in_ok-nodes.ensures c.path_parts.ensures.means
