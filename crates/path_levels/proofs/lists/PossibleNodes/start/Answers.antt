use Rattle.std.proofs.Common.{◌≡◌, ◌<◌, length, ap, ◌∙◌, arith}
use Rattle.rdf_terms.specs.Graph.{Graph}
use Rattle.rdf_terms.specs.Nodes.{Nodes, terms}
use Rattle.shapes_graph.specs.PathForms.{paths}
use Rattle.repair_problem.specs.Setting.{Setting}
use Rattle.path_levels.specs.PossibleNodes.{node_count}
use Rattle.path_levels.proofs.Possibility.{possible_none, no_path}
use Rattle.path_levels.proofs.lists.PossibleNodes.start.Goals as goal
use Rattle.path_levels.proofs.lists.PossibleNodes.start.Goals.{else-path-path_count-via-then-path-path_count+else-node-len, else-path-path_count-via-else-path-path_count}

pub returns-else-path-path_count-clause-none : goal.returns-else-path-path_count-clause-none
returns-else-path-path_count-clause-none c =
    let s = c.args.self.now in
    elim c.else-path-path_count.branch [
      | else-path-path_count-via-then-path-path_count+else-node-len w ↦
          let count : w.len.result ≡ node_count s = w.len.ensures ∙ (ap (λ (n : Nodes). length (terms n)) w.nodes.ensures ∙ ap node_count c.self.view_is) in
          possible_none s c.args.p c.args.x (λ (l : c.args.x < node_count s). omega (arith, l, count, w.if-node-len.false))
      | else-path-path_count-via-else-path-path_count w ↦
          let count : c.path_count.result ≡ length (paths s.shapes) = c.path_count.ensures ∙ ap (λ (g : Graph). length (paths g)) (c.shapes.ensures ∙ ap (λ (t : Setting). t.shapes) c.self.view_is) in
          no_path s c.args.p c.args.x (omega (arith, count, w.if-path-path_count.false))
    ]
