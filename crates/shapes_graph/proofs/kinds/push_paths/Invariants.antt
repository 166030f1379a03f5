use Rattle.std.proofs.Common.{◌≡◌, ◌++◌, take}
use Rattle.std.specs.Prelude.{map, filter}
use Rattle.rdf_terms.specs.Statement.{Statement, is_iri}
use Rattle.shapes_graph.proofs.kinds.push_paths.Given as goal

abbrev pub invariant-paths : goal.invariant-paths
invariant-paths l =
    l.terms ≡ l.fn.terms ++ filter is_iri (map (λ (t : Statement). t.object) (take l.triple-index l.triple-items))
