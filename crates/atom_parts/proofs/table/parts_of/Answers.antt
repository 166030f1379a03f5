use Rattle.std.proofs.Common.{subst, IfOk, IfSome}
use Rattle.repair_problem.specs.Setting.{Setting}
use Rattle.path_levels.proofs.MeantParts.{Mean}
use Rattle.atom_parts.proofs.table.parts_of.Goals as goal

pub returns-clause-means : goal.returns-clause-means
returns-clause-means c =
    subst (λ (s : Setting). IfOk c.parts_of.result (λ o. IfSome o (λ parts. Mean s c.args.atom.now parts))) c.in_ok-table.ensures c.parts_of.ensures.means
