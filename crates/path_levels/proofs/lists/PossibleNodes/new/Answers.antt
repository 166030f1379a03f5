use Rattle.std.proofs.Common.{◌≡◌, ap}
use Rattle.std.specs.HashMap.{get}
use Rattle.std.specs.Map.{lookup}
use Rattle.repair_problem.specs.Setting.{full, nodes}
use Rattle.path_levels.specs.Lists.{same_start}
use Rattle.path_levels.proofs.ListLaws.{none_kept}
use Rattle.path_levels.proofs.NodeLaws.{nodes_again}
use Rattle.path_levels.proofs.lists.PossibleNodes.new.Goals as goal

pub invariant_of-result : goal.invariant_of-result
invariant_of-result c =
    let s = c.args.problem.now in
    let graph : c.in_ok-graph.graph.graph ≡ full s = cc c.in_ok-graph.ensures.graph in
    let numbers : c.in_ok-graph.graph.nodes ≡ nodes s = cc (c.in_ok-graph.ensures.nodes, c.in_ok-graph.ensures.graph, nodes_again s) in
    record {
      numbered = record { all_triples = graph; all_nodes = numbers };
      lists = none_kept s (λ k. get same_start c.new-2.result k) (λ k. ap (lookup (same_start k)) c.new-2.ensures.empty);
    }
