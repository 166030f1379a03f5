use Rattle.std.proofs.Common.{◌≡◌, ℕ, List, Some, slice_get, Contains, sym, ap, ◌∙◌, subst}
use Rattle.std.proofs.lemmas.Bool.{false≢true}
use Rattle.rdf_terms.specs.declared.term.Term.{Term}
use Rattle.rdf_terms.specs.Members.{IsListOf}
use Rattle.rdf_terms.specs.Nodes.{Nodes, terms, has_term}
use Rattle.rdf_terms.proofs.Members.{in_none}
use Rattle.rdf_navigation.specs.Instances.{IsInstance}
use Rattle.rdf_navigation.proofs.NumberLaws.{at_place}
use Rattle.path_eval.specs.Numbered.{terms_at}
use Rattle.path_eval.proofs.GrowthLaws.{if_ok}
use Rattle.targets.proofs.TargetLaws.{class_node}
use Rattle.targets.proofs.selection.instance_numbers.Goals as goal

pub returns-in-Some-clause-exact : goal.returns-in-Some-clause-exact
returns-in-Some-clause-exact c =
    let g = c.args.graph.now.graph in
    let n = c.args.graph.now.nodes in
    let k = c.in-Some.number in
    let at : slice_get (terms n) k ≡ Some c.args.class.now = subst (λ (m : Nodes). slice_get (terms m) k ≡ Some c.args.class.now) c.nodes.ensures.nodes c.in-Some.ensures.some in
    if_ok c.instances_from.result _ c.instances_from.ensures.exact (λ v h. subst (λ (z : Term). IsListOf (λ x. IsInstance g x z) (terms_at n v.items)) (at_place n k c.args.class.now at) h)

pub returns-in-None-clause-exact : goal.returns-in-None-clause-exact
returns-in-None-clause-exact c =
    let g = c.args.graph.now.graph in
    let n = c.args.graph.now.nodes in
    let class = c.args.class.now in
    λ y. (
      λ h. absurd (in_none y (subst (λ (is : List ℕ). Contains (terms_at n is) y) c.new.ensures.items h)),
      λ i. absurd (false≢true (sym c.in-None.ensures.none ∙ (ap (λ (m : Nodes). has_term m class) c.nodes.ensures.nodes ∙ c.nodes.ensures.whole class (class_node g y class i)))),
    )
