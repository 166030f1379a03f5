use Rattle.std.proofs.Common.{◌↔◌, IfOk, IfSome, subst}
use Rattle.rdf_terms.specs.Graph.{Graph}
use Rattle.repair_problem.specs.Setting.{Setting, IsEdit}
use Rattle.repair_problem.specs.Meaning.{Means}
use Rattle.repair_problem.specs.PartMeaning.{PartsMean}
use Rattle.premise_rules.proofs.rules.PremiseRules.parts_of.Goals as goal

pub returns-clause-means : goal.returns-clause-means
returns-clause-means c =
    subst (λ (s : Setting). IfOk c.parts_of.result (λ o. IfSome o (λ parts. (g : Graph) → IsEdit s g → Means s g c.args.atom.now ↔ PartsMean (Means s g) parts))) c.self.view_is c.parts_of.ensures.means
