use Rattle.std.proofs.Common.{◌≡◌, ◌↔◌, ◌∙◌, ap, subst, sym, IsTrue}
use Rattle.std.specs.List.{list_any}
use Rattle.rdf_terms.specs.Statement.{Statement}
use Rattle.rdf_terms.specs.Graph.{triples_of}
use Rattle.rdf_terms.specs.Nodes.{has_term}
use Rattle.rdf_terms.specs.Vocab.Rdf as rdf
use Rattle.rdf_navigation.specs.Values.{values}
use Rattle.rdf_navigation.specs.Instances.{IsInstance}
use Rattle.rdf_navigation.proofs.PropertyLaws.{any_map}
use Rattle.path_eval.proofs.Found.{types_are, types_test}
use Rattle.path_eval.proofs.instances.is_instance.Goals as goal

pub returns-clause-exact : goal.returns-clause-exact
returns-clause-exact c =
    let g = c.args.graph.now in
    let x = c.args.node.now in
    let n = c.in_ok-classes.classes in
    let is : c.any_object_in.result ≡ list_any (has_term n) (values g x rdf.type_) = c.any_object_in.ensures ∙ (ap (list_any (λ (t : Statement). has_term n t.object)) c.triples_of.ensures.value ∙ any_map (has_term n) (λ (t : Statement). t.object) (triples_of g x rdf.type_)) in
    subst (λ b. IsTrue b ↔ IsInstance g x c.args.class.now) (sym is) (types_are g n x c.args.class.now c.in_ok-classes.ensures)

pub returns-clause-test : goal.returns-clause-test
returns-clause-test c =
    let g = c.args.graph.now in
    let x = c.args.node.now in
    let n = c.in_ok-classes.classes in
    let is : c.any_object_in.result ≡ list_any (has_term n) (values g x rdf.type_) = c.any_object_in.ensures ∙ (ap (list_any (λ (t : Statement). has_term n t.object)) c.triples_of.ensures.value ∙ any_map (has_term n) (λ (t : Statement). t.object) (triples_of g x rdf.type_)) in
    is ∙ types_test g n x c.args.class.now c.in_ok-classes.ensures
