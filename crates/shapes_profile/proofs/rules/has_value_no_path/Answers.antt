use Rattle.std.proofs.Common.{List, map, ap, ◌∙◌}
use Rattle.std.specs.Prelude.{is_none}
use Rattle.std.specs.List.{list_any}
use Rattle.rdf_terms.specs.declared.term.Term.{Term}
use Rattle.rdf_terms.specs.Statement.{Statement}
use Rattle.rdf_terms.specs.Graph.{Graph, triples_of}
use Rattle.rdf_terms.specs.Vocab.Sh as sh
use Rattle.rdf_navigation.proofs.PropertyLaws.{any_map}
use Rattle.property_paths.specs.PathTable.{listed_depth}
use Rattle.shapes_profile.proofs.ListedDepths.{values_listed}
use Rattle.shapes_profile.proofs.rules.has_value_no_path.Goals as goal

pub returns : goal.returns
returns c =
    let s = c.args.paths.now in
    let x = c.args.shape.now in
    c.has_object_no_path.ensures ∙ any_map (λ (y : Term). is_none (listed_depth s y)) (λ (t : Statement). t.object) c.triples_of.result.now
    ∙ ap (λ (us : List Statement). list_any (λ (y : Term). is_none (listed_depth s y)) (map (λ (t : Statement). t.object) us)) (c.triples_of.ensures.value ∙ ap (λ (g : Graph). triples_of g x sh.path) c.requires)
    ∙ values_listed s x sh.path
