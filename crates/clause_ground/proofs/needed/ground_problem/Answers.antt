use Rattle.std.proofs.Common.{◌≡◌, length, refl, subst}
use Rattle.repair_problem.specs.Setting.{Setting}
use Rattle.shapes_profile.specs.Profile.{IsInProfile}
use Rattle.shapes_profile.specs.Shapes.{shape_terms}
use Rattle.repair_problem.specs.Repair.{Apart}
use Rattle.core_constraints.proofs.Ranked.{ranked}
use Rattle.path_levels.proofs.PathDepths.{paths_nest}
use Rattle.atom_parts.specs.Fixing.{fixing, IsOrdered}
use Rattle.atom_parts.proofs.Founded.{all_founded}
use Rattle.atom_parts.proofs.Owned.{own_fixing}
use Rattle.atom_parts.proofs.Proper.{all_proper}
use Rattle.clause_ground.specs.Growth.{found, Grows, IsClosedTo}
use Rattle.clause_ground.specs.Premises.{rules_of}
use Rattle.clause_ground.specs.RootClauses.{RootsBelow}
use Rattle.clause_ground.specs.Needed.{AreNeeded}
use Rattle.clause_ground.proofs.Finished.{all_made}
use Rattle.clause_ground.proofs.Explained.{atoms_needed}
use Rattle.clause_ground.proofs.Whole.{explained}
use Rattle.clause_ground.proofs.needed.ground_problem.Goals as goal

pub returns-clause-needed : goal.returns-clause-needed
returns-clause-needed c =
    let s = c.args.problem.now in
    let old = found c.add_roots.new.ground.premises c.add_roots.new.ground.atoms.keys in
    let end = found c.add_atoms.new.ground.premises c.add_atoms.new.ground.atoms.keys in
    let same : c.in_ok-rules.rules ≡ s = c.in_ok-rules.ensures in
    let g : Grows s old end = subst (λ (x : Setting). Grows x old end) same c.in_ok-add_atoms.ensures.grows in
    let closed : IsClosedTo s (length end.atoms) end = subst (λ (x : Setting). IsClosedTo x (length end.atoms) end) same c.in_ok-add_atoms.ensures.closed in
    let roots : RootsBelow s (length (shape_terms s.shapes)) (rules_of end.premises) = λ n lt x h. g.rules _ (c.in_ok-add_roots.ensures.made n lt x h) in
    all_made s end.premises end.atoms g.sound.numbered roots closed g.sound

pub returns-clause-atoms : goal.returns-clause-atoms
returns-clause-atoms c =
    let s = c.args.problem.now in
    let profile : IsInProfile s.shapes = subst IsInProfile c.shapes-shapes.ensures c.triples-triples.ensures.profile in
    let order : IsOrdered (fixing s) = record { well = all_founded s (paths_nest s.shapes profile) (ranked s.shapes profile); own = own_fixing s; proper = all_proper s profile } in
    atoms_needed s profile order c.add_atoms.new.ground.premises c.add_atoms.new.ground.atoms.keys (returns-clause-needed c) c.add_atoms.new.ground.apart

pub returns-clause-explanations : goal.returns-clause-explanations
returns-clause-explanations c =
    let s = c.args.problem.now in
    let profile : IsInProfile s.shapes = subst IsInProfile c.shapes-shapes.ensures c.triples-triples.ensures.profile in
    let disjoint : Apart s.present s.offers = c.offers-offers.ensures.apart in
    let order : IsOrdered (fixing s) = record { well = all_founded s (paths_nest s.shapes profile) (ranked s.shapes profile); own = own_fixing s; proper = all_proper s profile } in
    explained s profile disjoint order c.add_atoms.new.ground.premises c.add_atoms.new.ground.atoms.keys (returns-clause-needed c) c.add_atoms.new.ground.apart

pub returns-clause-apart : goal.returns-clause-apart
returns-clause-apart c = c.add_atoms.new.ground.apart
