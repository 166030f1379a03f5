use Rattle.std.proofs.Common.{List, ap, ◌∙◌}
use Rattle.std.specs.Prelude.{find}
use Rattle.rdf_navigation.specs.Values.{same_term}
use Rattle.shapes_profile.specs.declared.properties.Row.{Row}
use Rattle.shapes_profile.specs.Properties.{row_of, iri_of}
use Rattle.shapes_profile.proofs.properties.row_of.Goals as goal

pub returns : goal.returns
unfolding row_of
returns c =
    c.copied.ensures ∙ c.find_row.ensures ∙ ap (λ (rs : List Row). find (λ (r : Row). same_term c.args.predicate.now (iri_of r.property)) rs) c.table.ensures
