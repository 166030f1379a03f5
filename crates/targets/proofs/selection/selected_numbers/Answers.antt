use Rattle.std.proofs.Common.{ℕ, List, IsTrue, refl, inl, inr, sym, subst}
use Rattle.rdf_terms.specs.declared.term.Term.{Term}
use Rattle.rdf_terms.specs.declared.term.Term.TheVariants.{Iri}
use Rattle.rdf_terms.specs.Members.{InGraph, IsListOf}
use Rattle.rdf_terms.specs.Nodes.{has_term}
use Rattle.rdf_navigation.specs.Instances.{IsInstance}
use Rattle.shapes_graph.specs.declared.targets.Target.{Target}
use Rattle.path_eval.specs.Numbered.{terms_at}
use Rattle.path_eval.proofs.GrowthLaws.{if_ok}
use Rattle.path_eval.proofs.LinkLaws.{list_same}
use Rattle.targets.specs.Selection.{IsSelected}
use Rattle.targets.proofs.TargetLaws.{instance_node}
use Rattle.targets.proofs.selection.selected_numbers.Goals as goal

pub returns-in-Node-clause-exact : goal.returns-in-Node-clause-exact
returns-in-Node-clause-exact c =
    let g = c.args.graph.now.graph in
    let n = c.args.graph.now.nodes in
    if_ok c.node_numbers.result _ c.node_numbers.ensures.exact (λ v h. subst (λ (k : Target). IsListOf (λ x. IsTrue (has_term n x) × IsSelected g x k) (terms_at n v.items)) (sym c.in-Node.is) h)

pub returns-in-Class-clause-exact : goal.returns-in-Class-clause-exact
returns-in-Class-clause-exact c =
    let g = c.args.graph.now.graph in
    let n = c.args.graph.now.nodes in
    let class = c.in-Class.class in
    if_ok c.instance_numbers.result _ c.instance_numbers.ensures.exact
    (λ v h. subst (λ (k : Target). IsListOf (λ x. IsTrue (has_term n x) × IsSelected g x k) (terms_at n v.items)) (sym c.in-Class.is)
    (list_same (λ x. IsInstance g x class) (λ x. IsTrue (has_term n x) × IsInstance g x class) (terms_at n v.items) (λ x. (λ i. (c.nodes-nodes.ensures.whole x (instance_node g x class i), i), λ r. r.1)) h))

pub returns-in-SubjectsOf-clause-exact : goal.returns-in-SubjectsOf-clause-exact
returns-in-SubjectsOf-clause-exact c =
    let g = c.args.graph.now.graph in
    let n = c.args.graph.now.nodes in
    let p = c.in-SubjectsOf.predicate in
    if_ok c.ends_along.result _ c.ends_along.ensures.exact
    (λ v h. subst (λ (k : Target). IsListOf (λ x. IsTrue (has_term n x) × IsSelected g x k) (terms_at n v.items)) (sym c.in-SubjectsOf.is)
    (list_same (λ x. (y : Term) × InGraph g x (Iri p) y) (λ x. IsTrue (has_term n x) × ((y : Term) × InGraph g x (Iri p) y)) (terms_at n v.items)
    (λ x. (λ i. (c.nodes-nodes.ensures.whole x (record { subject = x; predicate = Iri p; object = i.0 }, i.1, inl refl), i), λ r. r.1))
    (subst (λ (q : List ℕ). IsListOf (λ x. (y : Term) × InGraph g x (Iri q) y) (terms_at n v.items)) c.as_str.ensures h)))

pub returns-in-ObjectsOf-clause-exact : goal.returns-in-ObjectsOf-clause-exact
returns-in-ObjectsOf-clause-exact c =
    let g = c.args.graph.now.graph in
    let n = c.args.graph.now.nodes in
    let p = c.in-ObjectsOf.predicate in
    if_ok c.ends_along-in-ObjectsOf.result _ c.ends_along-in-ObjectsOf.ensures.exact
    (λ v h. subst (λ (k : Target). IsListOf (λ x. IsTrue (has_term n x) × IsSelected g x k) (terms_at n v.items)) (sym c.in-ObjectsOf.is)
    (list_same (λ x. (y : Term) × InGraph g y (Iri p) x) (λ x. IsTrue (has_term n x) × ((y : Term) × InGraph g y (Iri p) x)) (terms_at n v.items)
    (λ x. (λ i. (c.nodes-nodes.ensures.whole x (record { subject = i.0; predicate = Iri p; object = x }, i.1, inr refl), i), λ r. r.1))
    (subst (λ (q : List ℕ). IsListOf (λ x. (y : Term) × InGraph g y (Iri q) x) (terms_at n v.items)) c.as_str-in-ObjectsOf.ensures h)))
