use Rattle.std.proofs.Common.{List, map, ap, ◌∙◌, take_all}
use Rattle.std.specs.Prelude.{option_map}
use Rattle.rdf_terms.specs.Nodes.{Nodes}
use Rattle.rdf_terms.specs.declared.term.Term.{Term}
use Rattle.rdf_terms.specs.Vocab.Sh as sh
use Rattle.rdf_navigation.specs.Values.{value_of}
use Rattle.shapes_profile.specs.Shapes.{shape_terms}
use Rattle.shapes_graph.specs.PathForms.{number_among, path_number}
use Rattle.shapes_graph.proofs.PathTableLaws.{path_at}
use Rattle.shapes_graph.proofs.path_table.path_numbers.Goals as goal

pub returns-clause-all : goal.returns-clause-all
unfolding path_number
returns-clause-all c =
    let s = c.args.shapes.now in
    c.shapes.invariant
    ∙ ap (λ (xs : List Term). map (λ (x : Term). option_map (number_among c.args.nodes.now) (value_of s x sh.path)) xs) (take_all c.shapes.shape-index c.as_slice-shape-items.result.now c.shapes-test.false ∙ c.as_slice-shape-items.ensures)
    ∙ ap (λ (n : Nodes). map (λ (x : Term). option_map (number_among n) (value_of s x sh.path)) (shape_terms s)) c.requires

pub returns-clause-at : goal.returns-clause-at
returns-clause-at c = path_at c.args.shapes.now c.shapes.numbers (returns-clause-all c)
