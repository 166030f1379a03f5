use Rattle.std.proofs.Common.{◌∷◌, [], ℕ, List, None, sym, subst}
use Rattle.std.proofs.lemmas.Option.{slice_get-get_or}
use Rattle.rdf_terms.specs.declared.term.Term.TheVariants.{Literal, Iri}
use Rattle.rdf_terms.specs.Members.{InGraph}
use Rattle.rdf_terms.specs.Nodes.{terms}
use Rattle.rdf_navigation.specs.Numbers.{term_at}
use Rattle.shapes_graph.specs.declared.paths.PathForm.{PathForm}
use Rattle.shapes_graph.specs.PathForms.{paths}
use Rattle.shapes_graph.specs.Reach.{ReachIn, Reaches, path_levels}
use Rattle.path_eval.specs.Directions.{Towards}
use Rattle.path_eval.specs.Numbered.{AreReached}
use Rattle.path_eval.proofs.ReachedLaws.{reached_one}
use Rattle.core_constraints.specs.NumberLists.{IsStep}
use Rattle.core_constraints.proofs.Decided.{if_ok_more}
use Rattle.core_constraints.proofs.NodeNumbers.{numbers_iff, step_is}
use Rattle.core_constraints.proofs.value_nodes.reached_nodes.Goals as goal

pub returns-in-Some : goal.returns-in-Some
unfolding Reaches
returns-in-Some c =
    let s = c.args.input.now.shapes.now in
    let g = c.args.input.now.graph.graph in
    let n = c.args.input.now.graph.nodes in
    let p = c.args.path in
    let x = term_at n c.args.node in
    let i = c.as_str.result.now in
    let d = c.in-Some.direction in
    let at : IsStep (paths s) p i d = subst (λ (ps : List PathForm). IsStep ps p i d) c.paths.ensures (subst (λ (j : List ℕ). IsStep c.paths.result.now p j d) (sym c.as_str.ensures) c.in-Some.ensures) in
    if_ok_more _ _ (λ v a. numbers_iff n (Towards d (λ a b. InGraph g a (Iri i) b) x) (ReachIn path_levels (paths s) g p x) v.items (λ y. step_is (paths s) g p i d at 31 x y) a) c.linked_nodes.result c.linked_nodes.ensures

pub returns-in-None : goal.returns-in-None
unfolding Reaches
returns-in-None c =
    let s = c.args.input.now.shapes.now in
    let g = c.args.input.now.graph.graph in
    let n = c.args.input.now.graph.nodes in
    let p = c.args.path in
    let k = c.args.node in
    let at = slice_get-get_or (terms n) k (Literal [] [] None) c.requires.node in
    if_ok_more _ _ (λ v r.
    let all = subst (λ (ps : List PathForm). AreReached (λ a b. ReachIn path_levels ps g p a b) n (k ∷ []) v.items) c.paths-in-None.ensures r in
    record { within = all.within; rises = all.rises; exact = reached_one (λ a b. ReachIn path_levels (paths s) g p a b) n k (term_at n k) v.items at all }) c.reached_from.result c.reached_from.ensures
