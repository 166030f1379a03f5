use Rattle.std.proofs.Common.{◌≡◌, ap, ◌∙◌, subst, IfSome}
use Rattle.std.proofs.lemmas.Result.{IfOk-weaker}
use Rattle.shapes_profile.specs.Profile.{IsInProfile}
use Rattle.repair_problem.specs.Setting.{Setting}
use Rattle.path_levels.specs.PathParts.{path_parts}
use Rattle.path_levels.proofs.MeantParts.{Mean, parts_meant}
use Rattle.path_levels.proofs.PathDepths.{paths_nest}
use Rattle.path_levels.proofs.lists.PossibleNodes.path_parts.Goals as goal

pub returns-clause-means : goal.returns-clause-means
returns-clause-means c =
    let s = c.args.self.now in
    let a = c.args.atom.now in
    let profile : IsInProfile s.shapes = subst IsInProfile (c.shapes-shapes.ensures ∙ ap (λ (t : Setting). t.shapes) c.problem-problem.ensures) c.triples-triples.ensures.profile in
    IfOk-weaker c.parts_by_lists.result (λ o. o ≡ path_parts s a) (λ o. IfSome o (λ parts. Mean s a parts)) (λ o e. parts_meant s (paths_nest s.shapes profile) a o e) c.parts_by_lists.ensures.value
