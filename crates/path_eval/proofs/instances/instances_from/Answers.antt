use Rattle.std.proofs.Common.{List, [], ◌∷◌, subst, None}
use Rattle.std.proofs.lemmas.Option.{slice_get-get_or}
use Rattle.rdf_terms.specs.declared.term.Term.TheVariants.{Literal}
use Rattle.rdf_terms.specs.Nodes.{terms}
use Rattle.rdf_navigation.specs.Numbers.{term_at}
use Rattle.rdf_navigation.specs.Instances.{IsInstance}
use Rattle.shapes_graph.specs.declared.paths.PathForm.{PathForm}
use Rattle.shapes_graph.specs.PathForms.{paths, instance_path}
use Rattle.shapes_graph.specs.Reach.{ReachIn, path_levels}
use Rattle.path_eval.specs.Numbered.{AreReached, terms_at}
use Rattle.path_eval.proofs.GrowthLaws.{if_ok}
use Rattle.path_eval.proofs.InstancePath.{instance_is}
use Rattle.path_eval.proofs.LinkLaws.{list_same}
use Rattle.path_eval.proofs.ReachedLaws.{reached_one}
use Rattle.path_eval.proofs.instances.instances_from.Goals as goal

pub returns-clause-within : goal.returns-clause-within
returns-clause-within c = if_ok c.reached_from.result _ c.reached_from.ensures (λ v r. r.within)

pub returns-clause-rises : goal.returns-clause-rises
returns-clause-rises c = if_ok c.reached_from.result _ c.reached_from.ensures (λ v r. r.rises)

pub returns-clause-exact : goal.returns-clause-exact
returns-clause-exact c =
    let s = c.args.shapes.now in
    let g = c.args.graph.now.graph in
    let n = c.args.graph.now.nodes in
    let k = c.args.class in
    if_ok c.reached_from.result _ c.reached_from.ensures
    (λ v r.
    let all = subst (λ (ps : List PathForm). AreReached (λ a b. ReachIn path_levels ps g instance_path b a) n (k ∷ []) v.items) c.paths.ensures r in
    list_same (λ x. ReachIn path_levels (paths s) g instance_path x (term_at n k)) (λ x. IsInstance g x (term_at n k)) (terms_at n v.items) (λ x. instance_is s g x (term_at n k))
    (reached_one (λ a b. ReachIn path_levels (paths s) g instance_path b a) n k (term_at n k) v.items (slice_get-get_or (terms n) k (Literal [] [] None) c.requires) all))
