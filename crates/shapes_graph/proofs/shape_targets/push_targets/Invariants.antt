use Rattle.std.proofs.Common.{◌≡◌, ◌++◌, take}
use Rattle.std.specs.Prelude.{filter_map, option_and_then}
use Rattle.rdf_terms.specs.Statement.{Statement}
use Rattle.shapes_profile.specs.Properties.{property_of}
use Rattle.shapes_graph.specs.Targets.{target_of}
use Rattle.shapes_graph.proofs.shape_targets.push_targets.Given as goal

abbrev pub invariant-triples : goal.invariant-triples
invariant-triples l =
    l.targets ≡ l.fn.targets ++ filter_map (λ (t : Statement). option_and_then (target_of t.object) (property_of t.predicate)) (take l.triple-index l.triple-items)
