use Rattle.std.proofs.Common.{◌≡◌, ◌↔◌, ◌⊎◌, ◌∷◌, IsTrue, Contains, sym, ap, ◌∙◌, subst, take_all}
use Rattle.std.specs.List.{flat_map}
use Rattle.std.proofs.lemmas.Result.{IfOk-weaker}
use Rattle.rdf_terms.specs.declared.term.Term.{Term}
use Rattle.rdf_terms.specs.declared.term.Term.TheVariants.{Iri}
use Rattle.rdf_terms.specs.Graph.{triples}
use Rattle.rdf_terms.specs.Nodes.{has_term}
use Rattle.rdf_navigation.specs.Numbers.{ends_by, IsEndOf}
use Rattle.rdf_navigation.proofs.NumberLaws.{ends_is}
use Rattle.rdf_navigation.proofs.numbers.ends_of.Goals as goal

pub returns : goal.returns
returns c =
    let g = c.args.graph.now in
    let p = Iri c.args.predicate.now in
    let more = c.args.more.now in
    let all : c.triples.terms ≡ more ∷ flat_map (ends_by p) (triples g) =
    c.triples.invariant ∙ ap (λ ts. more ∷ flat_map (ends_by p) ts) (take_all c.triples.triple-index c.as_slice-triple-items.result.now c.triples-test.false ∙ c.as_slice-triple-items.ensures) in
    IfOk-weaker c.from_terms.result _ _ (λ n e (x : Term). subst (λ ts. IsTrue (has_term n x) ↔ Contains ts x → IsTrue (has_term n x) ↔ (IsEndOf g p x ⊎ (x ≡ more))) (sym all) (λ h. (λ b. (ends_is g p more x).0 (h.0 b), λ d. h.1 ((ends_is g p more x).1 d))) (e x)) c.from_terms.ensures.exact
