use Rattle.std.proofs.Common.{◌≡◌, ◌++◌, take}
use Rattle.std.specs.Prelude.{map, filter, flat_map}
use Rattle.rdf_terms.specs.Statement.{Statement, is_iri}
use Rattle.rdf_terms.specs.declared.term.Term.{Term}
use Rattle.rdf_terms.specs.Vocab.Sh as sh
use Rattle.rdf_navigation.specs.Values.{values}
use Rattle.shapes_graph.proofs.kinds.push_property_paths.Given as goal

abbrev pub invariant-properties : goal.invariant-properties
invariant-properties l =
    l.terms ≡ l.fn.terms ++ filter is_iri (flat_map (λ (p : Term). values l.graph p sh.path) (map (λ (t : Statement). t.object) (take l.triple-index l.triple-items)))
