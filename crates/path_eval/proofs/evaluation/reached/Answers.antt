use Rattle.std.proofs.Common.{◌≡◌, ◌<◌, ◌++◌, [], ◌∷◌, List, IsTrue, Some, slice_get, length, sym, ap, ◌∙◌, subst, inr}
use Rattle.std.proofs.lemmas.Bool.{false≢true}
use Rattle.rdf_terms.specs.declared.term.Term.{Term}
use Rattle.rdf_terms.specs.Nodes.{Nodes, terms, has_term, is_rising, nodes_of}
use Rattle.rdf_terms.specs.Graph.{Graph, empty}
use Rattle.rdf_terms.proofs.NodesLaws.{nodes_of_is}
use Rattle.rdf_terms.proofs.Members.{in_first}
use Rattle.rdf_terms.specs.Members.{IsListOf}
use Rattle.shapes_graph.specs.declared.paths.PathForm.{PathForm}
use Rattle.shapes_graph.specs.PathForms.{paths}
use Rattle.shapes_graph.specs.Reach.{ReachIn, Reaches, path_levels}
use Rattle.path_eval.specs.Numbered.{AreNumbers, AreReached, terms_at}
use Rattle.path_eval.proofs.GrowthLaws.{if_ok}
use Rattle.path_eval.proofs.ReachedLaws.{terms_rise, reached_one}
use Rattle.path_eval.proofs.VisitLaws.{in_one}
use Rattle.std.proofs.lemmas.Option.{slice_get_within}
use Rattle.path_eval.proofs.evaluation.reached.Goals as goal

pub terms_at-requires : goal.terms_at-requires
terms_at-requires c = subst (AreNumbers c.in_ok-numbered.numbered.nodes) (sym c.as_slice-in-Some.ensures.value) c.in_ok-found-in-Some.ensures.within

pub unreachable-requires : goal.unreachable-requires
unreachable-requires c =
    let x = c.args.from.now in
    let more : c.as_slice.result.now ≡ [] ++ x ∷ [] = c.as_slice.ensures ∙ (c.in_ok-push.ensures.ok ∙ (λ i. c.new-more.ensures i ++ c.in_ok-copy.ensures i ∷ [])) in
    let is : c.nodes.result.now ≡ nodes_of c.args.graph.now empty (x ∷ []) = c.nodes.ensures.nodes ∙ (c.in_ok-numbered.ensures.nodes ∙ ap (nodes_of c.args.graph.now empty) more) in
    false≢true (sym c.in-None.ensures.none ∙ (ap (λ (n : Nodes). has_term n x) is ∙ (nodes_of_is c.args.graph.now empty (x ∷ []) x).1 (inr (in_first x []))))

pub returns-clause-rises : goal.returns-clause-rises
returns-clause-rises c =
    let n = c.in_ok-numbered.numbered.nodes in
    let found = c.in_ok-found-in-Some.found.items in
    if_ok c.terms_at.result _ c.terms_at.ensures (λ ts e. subst (λ (us : List Term). IsTrue (is_rising us)) (sym (e ∙ ap (terms_at n) c.as_slice-in-Some.ensures.value)) (terms_rise n found c.in_ok-found-in-Some.ensures.within c.in_ok-found-in-Some.ensures.rises))

pub returns-clause-exact : goal.returns-clause-exact
unfolding Reaches
returns-clause-exact c =
    let n = c.in_ok-numbered.numbered.nodes in
    let x = c.args.from.now in
    let p = c.args.p in
    let start = c.in-Some.start in
    let found = c.in_ok-found-in-Some.found.items in
    let at : slice_get (terms n) start ≡ Some x = subst (λ (m : Nodes). slice_get (terms m) start ≡ Some x) c.nodes.ensures.nodes c.in-Some.ensures.some in
    let here = subst (λ (g : Graph). AreReached (λ a b. ReachIn path_levels c.paths.result.now g p a b) n (start ∷ []) found) c.in_ok-numbered.ensures.graph c.in_ok-found-in-Some.ensures in
    let all = subst (λ (ps : List PathForm). AreReached (λ a b. ReachIn path_levels ps c.args.graph.now p a b) n (start ∷ []) found) c.paths.ensures here in
    if_ok c.terms_at.result _ c.terms_at.ensures
    (λ ts e. subst (λ (us : List Term). IsListOf (ReachIn path_levels (paths c.args.shapes.now) c.args.graph.now p x) us) (sym (e ∙ ap (terms_at n) c.as_slice-in-Some.ensures.value)) (reached_one (λ a b. ReachIn path_levels (paths c.args.shapes.now) c.args.graph.now p a b) n start x found at all))

pub reached_from-requires : goal.reached_from-requires
reached_from-requires c =
    let n = c.in_ok-numbered.numbered.nodes in
    let start = c.in-Some.start in
    let at : slice_get (terms n) start ≡ Some c.args.from.now = subst (λ (m : Nodes). slice_get (terms m) start ≡ Some c.args.from.now) c.nodes.ensures.nodes c.in-Some.ensures.some in
    λ i d. subst (λ j. j < length (terms n)) (in_one start i d) (slice_get_within (terms n) start c.args.from.now at)
