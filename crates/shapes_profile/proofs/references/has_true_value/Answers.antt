use Rattle.std.proofs.Common.{List, ap, ◌∙◌, map}
use Rattle.std.specs.List.{list_any}
use Rattle.rdf_terms.specs.Statement.{Statement}
use Rattle.rdf_navigation.proofs.PropertyLaws.{any_map}
use Rattle.shapes_profile.specs.Shapes.{is_true_literal}
use Rattle.shapes_profile.proofs.references.has_true_value.Goals as goal

pub returns : goal.returns
returns c =
    c.is_any_true_literal.ensures ∙ any_map is_true_literal (λ (t : Statement). t.object) c.triples_of.result.now
    ∙ ap (λ (us : List Statement). list_any is_true_literal (map (λ (t : Statement). t.object) us)) c.triples_of.ensures.value
