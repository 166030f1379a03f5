use Rattle.std.proofs.Common.{◌≡◌, Contains, sym, ap, ◌∙◌, subst, take_all}
use Rattle.std.specs.List.{flat_map}
use Rattle.std.proofs.lemmas.Result.{IfOk-weaker}
use Rattle.rdf_terms.specs.Vocab.Rdf.{type_}
use Rattle.rdf_terms.specs.Nodes.{terms, has_term}
use Rattle.rdf_terms.proofs.Bools.{alike}
use Rattle.rdf_navigation.specs.Values.{subjects}
use Rattle.rdf_navigation.specs.Instances.{is_instance}
use Rattle.rdf_navigation.proofs.InstanceLaws.{instances_are, is_instance_is}
use Rattle.rdf_navigation.proofs.instances.instances_of.Goals as goal

exact : goal.returns-clause-exact
exact c =
    let g = c.args.graph.now in
    let n = c.in_ok-classes.classes in
    let all : c.classes.instances ≡ flat_map (λ b. subjects g type_ b) (terms n) =
    c.classes.invariant ∙ ap (flat_map (λ b. subjects g type_ b)) (take_all c.classes.class-index c.as_slice-class-items.result.now c.classes-test.false ∙ c.as_slice-class-items.ensures.value) in
    let are = instances_are g n c.args.class.now c.in_ok-classes.ensures in
    IfOk-weaker c.from_terms.result _ _ (λ m e x. (
      λ h. (are x).0 (subst (λ ts. Contains ts x) all ((e x).0 h)),
      λ h. (e x).1 (subst (λ ts. Contains ts x) (sym all) ((are x).1 h)),
    )) c.from_terms.ensures.exact

pub returns-clause-exact : goal.returns-clause-exact
returns-clause-exact c = exact c

pub returns-clause-test : goal.returns-clause-test
returns-clause-test c =
    let g = c.args.graph.now in
    let class = c.args.class.now in
    IfOk-weaker c.from_terms.result _ _ (λ m e x.
    alike (has_term m x) (is_instance g x class) (λ h. (is_instance_is g x class).1 ((e x).0 h)) (λ h. (e x).1 ((is_instance_is g x class).0 h))) (exact c)
