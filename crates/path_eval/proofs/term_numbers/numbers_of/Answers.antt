use Rattle.std.proofs.Common.{◌≡◌, ◌+◌, ◌<◌, length, IsTrue, take, sym, ap, ◌∙◌, subst, arith}
use Rattle.std.proofs.lemmas.List.{length-map, take-map}
use Rattle.std.proofs.lemmas.List.Elements.{All-contains}
use Rattle.std.proofs.lemmas.Option.{slice_get_within}
use denote.Ref.{Bor}
use Rattle.rdf_terms.specs.declared.term.Term.{Term}
use Rattle.rdf_terms.specs.Nodes.{terms, has_term}
use Rattle.path_eval.specs.Numbered.{terms_at, AreNumbers}
use Rattle.path_eval.specs.TermNumbers.{terms_in}
use Rattle.path_eval.proofs.LinkLaws.{numbers_push}
use Rattle.path_eval.proofs.RankLaws.{term_stands, contains_at, numbers_more}
use Rattle.path_eval.proofs.term_numbers.numbers_of.Goals as goal

pub number_near-requires : goal.number_near-requires
number_near-requires c =
    let list = c.args.list.now in
    let place = c.terms.place in
    let l : place < length list = omega arith in
    All-contains (λ t. IsTrue (has_term c.args.nodes.now t)) (terms_in list) c.index-list-place.result.now c.requires
    (contains_at (terms_in list) place c.index-list-place.result.now (term_stands list place c.index-list-place.result l c.index-list-place.is))

pub terms-preserved : goal.terms-preserved
terms-preserved c =
    let n = c.args.nodes.now in
    let list = c.args.list.now in
    let place = c.terms.place in
    let t = c.index-list-place.result in
    let i = c.number_near.result in
    let l : place < length list = omega arith in
    let m : place < length (terms_in list) = let e = length-map list (λ (u : Bor Term). u.now) in omega (arith, l, e) in
    let old = c.terms.numbers.items in
    let same : terms_at n old ≡ take place (terms_in list) = c.terms.invariant.same ∙ sym (take-map (λ (u : Bor Term). u.now) place list) in
    record {
      same = ap (terms_at n) c.in_ok-push.ensures.items ∙ (numbers_more n (terms_in list) place t.now old i m (term_stands list place t l c.index-list-place.is) same c.number_near.ensures ∙ take-map (λ (u : Bor Term). u.now) (place + 1) list);
      within = subst (AreNumbers n) (sym c.in_ok-push.ensures.items) (numbers_push n old i c.terms.invariant.within (slice_get_within (terms n) i t.now c.number_near.ensures));
    }
