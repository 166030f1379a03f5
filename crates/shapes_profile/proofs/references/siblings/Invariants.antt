use Rattle.std.proofs.Common.{◌≡◌, take, not}
use Rattle.std.specs.Prelude.{filter}
use Rattle.rdf_terms.specs.declared.term.Term.{Term}
use Rattle.rdf_navigation.specs.Values.{among}
use Rattle.shapes_profile.specs.References.{qualified_shapes}
use Rattle.shapes_profile.proofs.references.siblings.Given as goal

abbrev pub invariant-beside : goal.invariant-beside
invariant-beside l =
    l.siblings ≡ filter (λ (u : Term). not (among (qualified_shapes l.graph l.shape) u)) (take l.other-index l.other-items)
