use Rattle.std.proofs.Common.{ap, ◌∙◌, subst}
use Rattle.shapes_profile.specs.Profile.{IsInProfile}
use Rattle.repair_problem.specs.Setting.{Setting}
use Rattle.core_constraints.proofs.Ranked.{ranked}
use Rattle.path_levels.proofs.PathDepths.{paths_nest}
use Rattle.atom_parts.proofs.CountLaw.{means_fixing}
use Rattle.atom_parts.proofs.Founded.{all_founded}
use Rattle.atom_parts.proofs.Owned.{own_fixing}
use Rattle.atom_parts.proofs.Proper.{all_proper, root_proper}
use Rattle.atom_parts.proofs.table.AtomTable.atoms_are_founded.Goals as goal

pub returns-clause-means : goal.returns-clause-means
returns-clause-means c =
    let s = c.args.self.now in
    let profile : IsInProfile s.shapes = subst IsInProfile (c.shapes-shapes.ensures ∙ ap (λ (t : Setting). t.shapes) c.problem-problem.ensures) c.triples-triples.ensures.profile in
    λ g within a. means_fixing s profile g within a

pub returns-clause-ordered : goal.returns-clause-ordered
returns-clause-ordered c =
    let s = c.args.self.now in
    let profile : IsInProfile s.shapes = subst IsInProfile (c.shapes-shapes.ensures ∙ ap (λ (t : Setting). t.shapes) c.problem-problem.ensures) c.triples-triples.ensures.profile in
    record { well = all_founded s (paths_nest s.shapes profile) (ranked s.shapes profile); own = own_fixing s; proper = all_proper s profile }

pub returns-clause-roots : goal.returns-clause-roots
returns-clause-roots c = λ n x h k. root_proper c.args.self.now n x h k
