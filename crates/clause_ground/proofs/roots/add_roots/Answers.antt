use Rattle.std.proofs.Common.{◌≡◌, ◌<◌, ◌≤◌, length, ap, ◌∙◌, subst, arith}
use Rattle.rdf_terms.specs.Graph.{Graph}
use Rattle.shapes_profile.specs.Shapes.{shape_terms}
use Rattle.repair_problem.specs.Setting.{full, nodes}
use Rattle.path_levels.proofs.NodeLaws.{nodes_again}
use Rattle.clause_ground.specs.Growth.{found}
use Rattle.clause_ground.proofs.RootLists.{shapes_next}
use Rattle.clause_ground.proofs.Working.{grows_more}
use Rattle.clause_ground.proofs.roots.add_roots.Goals as goal

pub add_roots_of-requires-clause-graph : goal.add_roots_of-requires-clause-graph
add_roots_of-requires-clause-graph c =
    let s = c.args.problem.now in
    let graph : c.in_ok-graph.graph.graph ≡ full s = cc c.in_ok-graph.ensures.graph in
    let numbers : c.in_ok-graph.graph.nodes ≡ nodes s = cc (c.in_ok-graph.ensures.nodes, c.in_ok-graph.ensures.graph, nodes_again s) in
    record { all_triples = graph; all_nodes = numbers }

pub shapes-preserved : goal.shapes-preserved
shapes-preserved c =
    let s = c.args.problem.now in
    let first = found c.args.ground.now.premises c.args.ground.now.atoms.keys in
    let old = found c.shapes.ground.premises c.shapes.ground.atoms.keys in
    let new = found c.add_roots_of.new.ground.premises c.add_roots_of.new.ground.atoms.keys in
    let g = c.in_ok-add_roots_of.ensures.grows in
    record {
      grows = grows_more s first old new c.shapes.invariant.grows g;
      made = shapes_next s c.shapes.s old new g c.shapes.invariant.made c.in_ok-add_roots_of.ensures.made;
    }

pub returns-clause-made : goal.returns-clause-made
returns-clause-made c = λ n lt x h.
    let e = c.shape_count-s-end.ensures in
    let f : length (shape_terms c.shapes-2.result.now) ≡ length (shape_terms c.args.problem.now.shapes) = ap (λ (g : Graph). length (shape_terms g)) c.shapes-2.ensures in
    let le = c.shapes-test.false in
    c.shapes.invariant.made n (omega (arith, lt, e, f, le)) x h
