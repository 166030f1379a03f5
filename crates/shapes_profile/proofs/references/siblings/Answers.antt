use Rattle.std.proofs.Common.{◌≡◌, true, false, not, List, ap, ◌∙◌, take_all}
use Rattle.std.specs.Prelude.{filter}
use Rattle.rdf_terms.specs.Nodes.{terms}
use Rattle.rdf_terms.specs.declared.term.Term.{Term}
use Rattle.rdf_navigation.specs.Values.{among}
use Rattle.shapes_profile.specs.References.{qualified_shapes, asks_for_siblings}
use Rattle.shapes_profile.proofs.SiblingLaws.{siblings_some, siblings_none}
use Rattle.shapes_profile.proofs.references.siblings.Goals as goal

pub returns-then-not-asks_for_siblings : goal.returns-then-not-asks_for_siblings
returns-then-not-asks_for_siblings c =
    let none : asks_for_siblings c.args.graph.now c.args.shape.now ≡ false = cc in
    c.new-siblings.ensures ∙ siblings_none c.args.graph.now c.args.shape.now none

pub returns : goal.returns
returns c =
    let some : asks_for_siblings c.args.graph.now c.args.shape.now ≡ true = cc in
    c.beside.invariant
    ∙ ap (λ (us : List Term). filter (λ (u : Term). not (among (qualified_shapes c.args.graph.now c.args.shape.now) u)) us) (take_all c.beside.other-index c.as_slice-other-items.result.now c.beside-test.false ∙ c.as_slice-other-items.ensures.value ∙ ap terms c.in_ok-beside.ensures)
    ∙ siblings_some c.args.graph.now c.args.shape.now some
