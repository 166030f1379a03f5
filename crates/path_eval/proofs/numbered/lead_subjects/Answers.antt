use Rattle.std.proofs.Common.{refl, ◌≡◌, ◌+◌, length, Some, slice_get, sym, ap, ◌∙◌, subst, arith, List, ℕ}
use Rattle.std.proofs.lemmas.List.{length-map}
use Rattle.std.proofs.lemmas.Option.{slice_get_read, slice_get-map}
use Rattle.std.proofs.Common.{option_map}
use Rattle.rdf_terms.specs.Statement.{Statement}
use Rattle.rdf_terms.specs.Graph.{triples}
use Rattle.path_eval.specs.TermNumbers.{terms_in, subjects_of}
use Rattle.path_eval.proofs.RankLaws.{IsRankedFront, front_more, front_all}
use Rattle.path_eval.proofs.numbered.lead_subjects.Goals as goal

pub triples-preserved : goal.triples-preserved
triples-preserved c =
    let g = c.args.graph.now in
    let ts = c.as_slice-triple-items.result.now in
    let k = c.triples.triple-index in
    let t = c.triple-item.result in
    let s = c.triple.inside.subject in
    let at : slice_get ts k ≡ Some t = slice_get_read ts (length ts) k t refl c.triples-test.true c.triple-item.is in
    let there : slice_get (subjects_of (triples g)) k ≡ Some s =
    slice_get-map (λ (u : Statement). u.subject) (triples g) k
    ∙ (ap (λ (us : List Statement). option_map (λ (u : Statement). u.subject) (slice_get us k)) (sym c.as_slice-triple-items.ensures)
    ∙ (ap (option_map (λ (u : Statement). u.subject)) at ∙ ap Some (sym (ap (λ (u : Statement). u.subject) c.triple.view_is)))) in
    subst (λ (ranks : List ℕ). IsRankedFront (subjects_of (triples g)) (k + 1) (terms_in c.put_last.new.terms.items) ranks) (sym c.in_ok-push.ensures.items)
    (front_more (subjects_of (triples g)) k (terms_in c.triples.leads.items) (terms_in c.put_last.new.terms.items) c.triples.places.items c.in_ok-place.place s
    c.triples.invariant there c.in_ok-place.ensures.kept c.in_ok-place.ensures.place)

pub returns-clause-ranked : goal.returns-clause-ranked
returns-clause-ranked c =
    let g = c.args.graph.now in
    let m = length-map (triples g) (λ (u : Statement). u.subject) in
    let same : length c.as_slice-triple-items.result.now ≡ length (triples g) = ap length c.as_slice-triple-items.ensures in
    front_all (subjects_of (triples g)) c.triples.triple-index (terms_in c.triples.leads.items) c.triples.places.items c.triples.invariant
    (omega (arith, c.triples-test.false, c.triples.auto.triple-index-end, m, same))
