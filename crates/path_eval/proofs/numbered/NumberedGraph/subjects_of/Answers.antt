use Rattle.std.proofs.Common.{◌≡◌, ℕ, ◌+◌, ◌<◌, List, [], ◌∷◌, ◌++◌, take, take_all, length, get_or, Contains, sym, ◌∙◌, subst}
use Rattle.rdf_terms.specs.declared.term.Term.{Term}
use Rattle.rdf_terms.specs.declared.term.Term.TheVariants.{Iri}
use Rattle.rdf_terms.specs.Graph.{triples, ArePlacesOfObject}
use Rattle.rdf_terms.specs.Members.{InGraph, IsListOf}
use Rattle.rdf_navigation.specs.Numbers.{term_at}
use Rattle.rdf_navigation.proofs.NumberLaws.{at_place}
use Rattle.path_eval.specs.declared.direction.Direction.TheVariants.{Backward}
use Rattle.path_eval.specs.Numbered.{Numbered, terms_at, AreNumbers}
use Rattle.path_eval.specs.Links.{IsLinked}
use Rattle.path_eval.proofs.LinkLaws.{list_same, numbers_push, backward_more, backward_other, backward_is, place_inside}
use Rattle.path_eval.proofs.Found.{at_place as at_number}
use Rattle.path_eval.proofs.numbered.NumberedGraph.subjects_of.Goals as goal
use Rattle.path_eval.proofs.numbered.NumberedGraph.subjects_of.Goals.{in-Some+in_ok-push, in_default}

pub link-requires : goal.link-requires
link-requires c =
    let v = c.self.inside in
    let places = c.places_of_object-place-items.result.now in
    let k = c.places.place-index in
    subst (λ (u : Numbered). get_or places k 0 < length (triples u.graph)) c.self.view_is
    (place_inside (triples v.graph.now) c.nth_term.result.now places c.places_of_object-place-items.ensures (get_or places k 0) (at_number places k 0 c.places-test.true))

pub places-preserved : goal.places-preserved
places-preserved c =
    let ts = triples c.args.self.now.graph in
    let n = c.args.self.now.nodes in
    let p = Iri c.args.predicate.now in
    let places = c.places_of_object-place-items.result.now in
    let k = c.places.place-index in
    elim c.match-link.branch [
      | in-Some+in_ok-push w ↦
          let e : c.match-link.found.items ≡ c.places.found.items ++ w.in-Some.subject ∷ [] = (λ j. (w.found-is j).items) ∙ w.in_ok-push.ensures.items in
          record {
            within = subst (AreNumbers n) (sym e) (numbers_push n c.places.found.items w.in-Some.subject c.places.invariant.within w.in-Some.ensures.within);
            linked = subst (λ (fs : List ℕ). IsListOf (IsLinked ts p Backward (λ i. Contains (take (k + 1) places) i)) (terms_at n fs)) (sym e)
                (backward_more ts p places k c.places-test.true n c.places.found.items w.in-Some.subject c.places.invariant.linked w.in-Some.ensures.some);
          }
      | in_default w ↦
          let e : c.match-link.found.items ≡ c.places.found.items = λ j. (w.found-is j).items in
          record {
            within = subst (AreNumbers n) (sym e) c.places.invariant.within;
            linked = subst (λ (fs : List ℕ). IsListOf (IsLinked ts p Backward (λ i. Contains (take (k + 1) places) i)) (terms_at n fs)) (sym e)
                (backward_other ts p places k c.places-test.true w.in_default.ensures.none (terms_at n c.places.found.items) c.places.invariant.linked);
          }
    ]

pub returns-clause-exact : goal.returns-clause-exact
returns-clause-exact c =
    let v = c.self.inside in
    let s = c.args.object in
    let n = c.args.self.now.nodes in
    let p = Iri c.args.predicate.now in
    let places = c.places_of_object-place-items.result.now in
    let all : take c.places.place-index places ≡ places = take_all c.places.place-index places c.places-test.false in
    let own : ArePlacesOfObject (triples v.graph.now) (term_at v.nodes s) places = subst (λ (t : Term). ArePlacesOfObject (triples v.graph.now) t places) (sym (at_place v.nodes s c.nth_term.result.now c.nth_term.ensures)) c.places_of_object-place-items.ensures in
    let here : ArePlacesOfObject (triples c.args.self.now.graph) (term_at n s) places = subst (λ (u : Numbered). ArePlacesOfObject (triples u.graph) (term_at u.nodes s) places) c.self.view_is own in
    list_same (IsLinked (triples c.args.self.now.graph) p Backward (λ i. Contains places i)) (λ x. InGraph c.args.self.now.graph x p (term_at n s)) (terms_at n c.places.found.items)
    (λ x. backward_is c.args.self.now.graph p (term_at n s) places here x)
    (subst (λ (us : List ℕ). IsListOf (IsLinked (triples c.args.self.now.graph) p Backward (λ i. Contains us i)) (terms_at n c.places.found.items)) all c.places.invariant.linked)
