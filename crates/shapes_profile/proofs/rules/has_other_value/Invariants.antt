use Rattle.std.proofs.Common.{◌≡◌, take, not}
use Rattle.std.specs.List.{list_any}
use Rattle.rdf_terms.specs.declared.term.Term.{Term}
use Rattle.rdf_navigation.specs.Values.{values}
use Rattle.shapes_profile.specs.declared.properties.Row.{Row}
use Rattle.shapes_profile.specs.Properties.{iri_of}
use Rattle.shapes_profile.specs.IllFormed.{is_expected}
use Rattle.shapes_profile.proofs.rules.has_other_value.Given as goal

abbrev pub invariant-rows : goal.invariant-rows
invariant-rows l =
    l.found ≡ list_any (λ (r : Row). list_any (λ (y : Term). not (is_expected l.shapes r.value y)) (values l.shapes l.shape (iri_of r.property))) (take l.row-index l.row-items)
