use Rattle.std.proofs.Common.{ap, ◌∙◌, subst, IfSome}
use Rattle.std.proofs.lemmas.Result.{IfOk-weaker}
use Rattle.shapes_profile.specs.Profile.{IsInProfile}
use Rattle.repair_problem.specs.Setting.{Setting}
use Rattle.path_levels.proofs.MeantParts.{Mean}
use Rattle.atom_parts.specs.PartsTable.{parts_of}
use Rattle.atom_parts.proofs.PartsLaw.{parts_meant}
use Rattle.atom_parts.proofs.table.AtomTable.parts_of.Goals as goal

pub returns-clause-means : goal.returns-clause-means
returns-clause-means c =
    let s = c.args.self.now in
    let a = c.args.atom.now in
    let profile : IsInProfile s.shapes = subst IsInProfile (c.shapes-shapes.ensures ∙ ap (λ (t : Setting). t.shapes) c.problem-problem.ensures) c.triples-triples.ensures.profile in
    IfOk-weaker c.listed_parts_of.result _ (λ o. IfSome o (λ parts. Mean s a parts))
    (λ o e. parts_meant s profile a o (e ∙ ap (λ (t : Setting). parts_of t a) c.self.view_is))
    c.listed_parts_of.ensures.value
