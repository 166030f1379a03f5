use Rattle.std.proofs.Common.{rules, ◌≡◌, ◌<◌, ℕ, List, length, get_or, sym, subst, arith}
use Rattle.std.proofs.lemmas.List.{length-map, get_or-map}
use denote.Ref.{Bor}
use Rattle.rdf_terms.specs.declared.term.Term.{Term}
use Rattle.path_eval.specs.declared.term_numbers.HeadedPlace.{HeadedPlace}
use Rattle.path_eval.specs.TermNumbers.{terms_in, places_in, ArePlaces}
use Rattle.path_eval.proofs.RankLaws.{term_stands, place_within, ranking_more, ranking_all}
use Rattle.path_eval.proofs.term_numbers.rank.Goals as goal

abbrev nowhere : HeadedPlace
nowhere = record { head = 0; place = 0 }

all_places : (n : ℕ) (headed items : List HeadedPlace) → items ≡ headed → ArePlaces n (places_in headed) → ArePlaces n (places_in items)
all_places n headed items e h = subst (λ hs. ArePlaces n (places_in hs)) (sym e) h

pub offset_bounds-list-at : goal.offset_bounds-list-at
offset_bounds-list-at c =
    let l : (get_or c.deref-at-items.result.now c.places.at-index nowhere).place < length c.args.list.now = place_within (length c.args.list.now) c.deref-at-items.result.now c.places.at-index nowhere (all_places (length c.args.list.now) c.in_ok-headed.headed.items c.deref-at-items.result.now c.deref-at-items.ensures.value c.in_ok-headed.ensures) c.places-test.true in
    search rules

pub bounds-list-at : goal.bounds-list-at
bounds-list-at c = place_within (length c.args.list.now) c.deref-at-items.result.now c.places.at-index nowhere (all_places (length c.args.list.now) c.in_ok-headed.headed.items c.deref-at-items.result.now c.deref-at-items.ensures.value c.in_ok-headed.ensures) c.places-test.true

pub index_mut-requires : goal.index_mut-requires
index_mut-requires c =
    let list = c.args.list.now in
    let p = place_within (length list) c.deref-at-items.result.now c.places.at-index nowhere (all_places (length c.args.list.now) c.in_ok-headed.headed.items c.deref-at-items.result.now c.deref-at-items.ensures.value c.in_ok-headed.ensures) c.places-test.true in
    let e = length-map list (λ (u : Bor Term). u.now) in
    let long = c.places.invariant.long in
    let size = c.places.ranks.ok.0 in
    omega (arith, p, e, long, size)

pub places-preserved : goal.places-preserved
places-preserved c =
    let list = c.args.list.now in
    let headed = c.deref-at-items.result.now in
    let k = c.places.at-index in
    let p = (get_or headed k nowhere).place in
    let t = c.index-list-at.result in
    let l : p < length list = place_within (length list) headed k nowhere (all_places (length c.args.list.now) c.in_ok-headed.headed.items c.deref-at-items.result.now c.deref-at-items.ensures.value c.in_ok-headed.ensures) c.places-test.true in
    ranking_more (terms_in list) (places_in headed) k (terms_in c.places.distinct.items) (terms_in c.put_last.new.terms.items) c.places.ranks.items p c.in_ok-rank.rank t.now
    c.places.invariant
    (sym (get_or-map (λ (at : HeadedPlace). at.place) headed k nowhere 0 c.places-test.true))
    (term_stands list p t l c.index-list-at.is)
    c.in_ok-rank.ensures.kept c.in_ok-rank.ensures.place

pub returns-clause-ranked : goal.returns-clause-ranked
returns-clause-ranked c =
    let list = c.args.list.now in
    let headed = c.deref-at-items.result.now in
    let e = length-map headed (λ (at : HeadedPlace). at.place) in
    ranking_all (terms_in list) (places_in headed) c.places.at-index (terms_in c.places.distinct.items) c.places.ranks.items c.places.invariant
    (omega (arith, c.places-test.false, e))
    (subst (λ n. ArePlaces n (places_in headed)) (sym (length-map list (λ (u : Bor Term). u.now))) (all_places (length c.args.list.now) c.in_ok-headed.headed.items c.deref-at-items.result.now c.deref-at-items.ensures.value c.in_ok-headed.ensures))
