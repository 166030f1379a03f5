use Rattle.std.proofs.Common.{◌≡◌, ℕ, ◌+◌, ◌<◌, ◌≤◌, List, [], ◌∷◌, ◌++◌, sym, ◌∙◌, subst, arith}
use Rattle.rdf_terms.specs.declared.term.Term.TheVariants.{Iri}
use Rattle.rdf_terms.specs.Graph.{triples, ArePlacesOf}
use Rattle.rdf_terms.specs.Members.{InGraph, IsListOf}
use Rattle.rdf_navigation.specs.Numbers.{term_at}
use Rattle.path_eval.specs.declared.direction.Direction.TheVariants.{Forward}
use Rattle.path_eval.specs.Numbered.{terms_at, AreNumbers}
use Rattle.path_eval.specs.Links.{IsLinked}
use Rattle.path_eval.proofs.LinkLaws.{list_same, numbers_push, forward_more, forward_other, forward_is}
use Rattle.path_eval.proofs.numbered.NumberedGraph.objects_of.Goals as goal
use Rattle.path_eval.proofs.numbered.NumberedGraph.objects_of.Goals.{in-Some+in_ok-push, in_default}

pub places-preserved : goal.places-preserved
places-preserved c =
    let ts = triples c.args.self.now.graph in
    let n = c.args.self.now.nodes in
    let p = Iri c.args.predicate.now in
    let first = c.places_of-first.result.0 in
    let place = c.places.place in
    elim c.match-link.branch [
      | in-Some+in_ok-push w ↦
          let e : c.match-link.found.items ≡ c.places.found.items ++ w.in-Some.object ∷ [] = (λ k. (w.found-is k).items) ∙ w.in_ok-push.ensures.items in
          record {
            within = subst (AreNumbers n) (sym e) (numbers_push n c.places.found.items w.in-Some.object c.places.invariant.within w.in-Some.ensures.within);
            linked = subst (λ (fs : List ℕ). IsListOf (IsLinked ts p Forward (λ i. (first ≤ i) × (i < place + 1))) (terms_at n fs)) (sym e)
                (forward_more ts p first place c.places.auto.place n c.places.found.items w.in-Some.object c.places.invariant.linked w.in-Some.ensures.some);
          }
      | in_default w ↦
          let e : c.match-link.found.items ≡ c.places.found.items = λ k. (w.found-is k).items in
          record {
            within = subst (AreNumbers n) (sym e) c.places.invariant.within;
            linked = subst (λ (fs : List ℕ). IsListOf (IsLinked ts p Forward (λ i. (first ≤ i) × (i < place + 1))) (terms_at n fs)) (sym e)
                (forward_other ts p first place c.places.auto.place w.in_default.ensures.none (terms_at n c.places.found.items) c.places.invariant.linked);
          }
    ]

pub returns-clause-exact : goal.returns-clause-exact
returns-clause-exact c =
    let s = c.args.subject in
    let n = c.args.self.now.nodes in
    let p = Iri c.args.predicate.now in
    let first = c.places_of-first.result.0 in
    let after = c.places_of-first.result.1 in
    let end : c.places.place ≡ after = let a = c.places_of-first.ensures.ordered in omega (arith, c.places-test.false, c.places.auto.place-end, a) in
    let places : ArePlacesOf (triples c.args.self.now.graph) (term_at n s) first after = c.places_of-first.ensures in
    list_same (IsLinked (triples c.args.self.now.graph) p Forward (λ i. (first ≤ i) × (i < after))) (λ y. InGraph c.args.self.now.graph (term_at n s) p y) (terms_at n c.places.found.items)
    (λ y. forward_is c.args.self.now.graph p (term_at n s) first after places y)
    (subst (λ (k : ℕ). IsListOf (IsLinked (triples c.args.self.now.graph) p Forward (λ i. (first ≤ i) × (i < k))) (terms_at n c.places.found.items)) end c.places.invariant.linked)
