use Rattle.std.proofs.Common.{◌≡◌, take}
use Rattle.std.specs.Prelude.{map, option_map}
use Rattle.rdf_terms.specs.declared.term.Term.{Term}
use Rattle.rdf_terms.specs.Vocab.Sh as sh
use Rattle.rdf_navigation.specs.Values.{value_of}
use Rattle.shapes_graph.specs.PathForms.{number_among}
use Rattle.shapes_graph.proofs.path_table.path_numbers.Given as goal

abbrev pub invariant-shapes : goal.invariant-shapes
invariant-shapes l =
    l.numbers ≡ map (λ (x : Term). option_map (number_among l.nodes) (value_of l.shapes x sh.path)) (take l.shape-index l.shape-items)
