use Rattle.std.proofs.Common.{◌≡◌, take}
use Rattle.std.specs.Prelude.{map, unwrap_or}
use Rattle.rdf_terms.specs.declared.term.Term.{Term}
use Rattle.rdf_terms.specs.Vocab.Sh as sh
use Rattle.rdf_navigation.specs.Values.{value_of}
use Rattle.shapes_graph.proofs.shape_settings.severities.Given as goal

abbrev pub invariant-shapes : goal.invariant-shapes
invariant-shapes l =
    l.severities ≡ map (λ (x : Term). unwrap_or (value_of l.shapes x sh.severity) sh.violation) (take l.shape-index l.shape-items)
