use Rattle.std.proofs.Common.{◌≡◌, ℕ, ◌+◌, ◌<◌, List, [], ◌∷◌, ◌++◌, length, sym, ap, ◌∙◌, subst, arith}
use Rattle.rdf_terms.specs.declared.term.Term.{Term}
use Rattle.rdf_terms.specs.declared.term.Term.TheVariants.{Iri}
use Rattle.rdf_terms.specs.Graph.{triples}
use Rattle.rdf_terms.specs.Members.{InGraph, IsListOf}
use Rattle.path_eval.specs.Directions.{Towards}
use Rattle.path_eval.specs.Numbered.{Numbered, terms_at, AreNumbers}
use Rattle.path_eval.specs.Links.{IsLinked}
use Rattle.path_eval.proofs.LinkLaws.{list_same, numbers_push, pass_more, pass_other, pass_is}
use Rattle.path_eval.proofs.numbered.NumberedGraph.ends_along.Goals as goal
use Rattle.path_eval.proofs.numbered.NumberedGraph.ends_along.Goals.{in-Some+in_ok-push, in_default}

pub places-preserved : goal.places-preserved
places-preserved c =
    let ts = triples c.args.self.now.graph in
    let n = c.args.self.now.nodes in
    let p = Iri c.args.predicate.now in
    let d = c.args.direction in
    let place = c.places.place in
    elim c.match-link.branch [
      | in-Some+in_ok-push w ↦
          let e : c.match-link.found.items ≡ c.places.found.items ++ w.in-Some.node ∷ [] = (λ k. (w.found-is k).items) ∙ w.in_ok-push.ensures.items in
          record {
            within = subst (AreNumbers n) (sym e) (numbers_push n c.places.found.items w.in-Some.node c.places.invariant.within w.in-Some.ensures.within);
            linked = subst (λ (fs : List ℕ). IsListOf (IsLinked ts p d (λ i. i < place + 1)) (terms_at n fs)) (sym e) (pass_more ts p d place n c.places.found.items w.in-Some.node c.places.invariant.linked w.in-Some.ensures.some);
          }
      | in_default w ↦
          let e : c.match-link.found.items ≡ c.places.found.items = λ k. (w.found-is k).items in
          record {
            within = subst (AreNumbers n) (sym e) c.places.invariant.within;
            linked = subst (λ (fs : List ℕ). IsListOf (IsLinked ts p d (λ i. i < place + 1)) (terms_at n fs)) (sym e) (pass_other ts p d place w.in_default.ensures.none (terms_at n c.places.found.items) c.places.invariant.linked);
          }
    ]

pub returns-clause-exact : goal.returns-clause-exact
returns-clause-exact c =
    let g = c.args.self.now.graph in
    let n = c.args.self.now.nodes in
    let p = Iri c.args.predicate.now in
    let d = c.args.direction in
    let len : c.len-place-end.result ≡ length (triples g) = c.len-place-end.ensures ∙ ap (λ (u : Numbered). length (triples u.graph)) c.self.view_is in
    let end : c.places.place ≡ length (triples g) = omega (arith, c.places-test.false, c.places.auto.place-end, len) in
    list_same (IsLinked (triples g) p d (λ i. i < length (triples g))) (λ y. (x : Term) × Towards d (λ a b. InGraph g a p b) x y) (terms_at n c.places.found.items) (pass_is g p d)
    (subst (λ (k : ℕ). IsListOf (IsLinked (triples g) p d (λ i. i < k)) (terms_at n c.places.found.items)) end c.places.invariant.linked)
