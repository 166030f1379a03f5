use Rattle.std.proofs.Common.{◌≡◌, ◌<◌, ◌≤◌, length, ap, ◌∙◌, subst}
use Rattle.shapes_profile.specs.Profile.{IsInProfile}
use Rattle.clause_ground.specs.Growth.{found}
use Rattle.clause_ground.specs.Premises.{rules_of}
use Rattle.clause_ground.proofs.RootLists.{moved, root_grows, roots_next, roots_whole}
use Rattle.clause_ground.proofs.Working.{grows_more}
use Rattle.clause_ground.proofs.roots.add_roots_of.Goals as goal

pub nodes-preserved : goal.nodes-preserved
nodes-preserved c =
    let s = c.args.problem.now in
    let xs = c.as_slice-x-items.result.now in
    let first = found c.args.ground.now.premises c.args.ground.now.atoms.keys in
    let old = found c.nodes.ground.premises c.nodes.ground.atoms.keys in
    let new = found c.add_root.new.ground.premises c.add_root.new.ground.atoms.keys in
    let profile : IsInProfile s.shapes = subst IsInProfile c.shapes-shapes.ensures c.triples-triples.ensures.profile in
    let m = moved s c.args.s c.shapes-shapes.result.now c.args.graph.now.graph c.args.graph.now.nodes c.in_ok-nodes.nodes.items xs c.shapes-shapes.ensures c.requires.graph.all_nodes c.requires.graph.all_triples c.as_slice-x-items.ensures.value c.in_ok-nodes.ensures.within c.in_ok-nodes.ensures.exact in
    let g = root_grows s profile c.args.s c.requires.shape xs m.0 m.1 old new c.nodes.x-index c.nodes-test.true c.nodes.invariant.grows.sound c.in_ok-add_root.ensures in
    record {
      grows = grows_more s first old new c.nodes.invariant.grows g;
      made = roots_next s profile c.args.s c.requires.shape xs m.0 m.1 old new c.nodes.x-index c.in_ok-add_root.ensures g c.nodes.invariant.made;
    }

pub returns-clause-made : goal.returns-clause-made
returns-clause-made c =
    let s = c.args.problem.now in
    let xs = c.as_slice-x-items.result.now in
    let profile : IsInProfile s.shapes = subst IsInProfile c.shapes-shapes.ensures c.triples-triples.ensures.profile in
    let m = moved s c.args.s c.shapes-shapes.result.now c.args.graph.now.graph c.args.graph.now.nodes c.in_ok-nodes.nodes.items xs c.shapes-shapes.ensures c.requires.graph.all_nodes c.requires.graph.all_triples c.as_slice-x-items.ensures.value c.in_ok-nodes.ensures.within c.in_ok-nodes.ensures.exact in
    roots_whole s profile c.args.s c.requires.shape xs m.0 m.1 (rules_of c.nodes.ground.premises) c.nodes.x-index c.nodes-test.false c.nodes.invariant.made
