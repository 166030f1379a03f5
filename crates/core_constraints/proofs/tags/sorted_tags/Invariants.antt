use Rattle.std.proofs.Common.{◌≡◌, take, map}
use Rattle.std.specs.List.{filter_map}
use Rattle.shapes_graph.specs.NodeTests.{tag_of}
use Rattle.path_eval.specs.Numbered.{terms_at}
use Rattle.core_constraints.proofs.tags.sorted_tags.Given as goal

abbrev pub invariant-values : goal.invariant-values
invariant-values l = map (λ t. t.now) l.tags.items ≡ filter_map tag_of (take l.value-index (terms_at l.input.graph.nodes l.values))
