use Rattle.std.proofs.Common.{List, ap, ◌∙◌, map}
use Rattle.std.specs.Prelude.{is_none}
use Rattle.std.specs.List.{list_any}
use Rattle.rdf_terms.specs.declared.term.Term.{Term}
use Rattle.rdf_terms.specs.declared.term.Term.TheVariants.{Iri}
use Rattle.rdf_terms.specs.Statement.{Statement}
use Rattle.rdf_terms.specs.Graph.{Graph, triples_of}
use Rattle.rdf_navigation.specs.Lists.{members}
use Rattle.rdf_navigation.proofs.PropertyLaws.{any_map}
use Rattle.shapes_profile.proofs.rules.has_no_list_in_row.Goals as goal

pub returns : goal.returns
returns c =
    let s = c.args.declarations.now in
    let x = c.args.shape.now in
    let ts = c.triples_of-triples.result.now in
    let there = c.triples_of-triples.ensures.value ∙ ap (λ (g : Graph). triples_of g x (Iri c.iri.result.now)) c.graph.ensures ∙ ap (λ (p : Term). triples_of s x p) c.iri.ensures in
    c.has_object_no_list.ensures ∙ ap (λ (g : Graph). list_any (λ (t : Statement). is_none (members g t.object)) ts) c.lists.ensures
    ∙ any_map (λ (y : Term). is_none (members s y)) (λ (t : Statement). t.object) ts
    ∙ ap (λ (us : List Statement). list_any (λ (y : Term). is_none (members s y)) (map (λ (t : Statement). t.object) us)) there
