use Rattle.std.proofs.Common.{arith, ℕ, ◌<◌, ◌≤◌, ◌+◌, ◌-◌, ◌≡◌, ◌⊎◌, inl, inr, ◌∙◌, ap, get_or, length}
use Rattle.std.specs.declared.cmp.Ordering.TheVariants.{Less}
use Rattle.std.proofs.lemmas.List.{get_or-map, length-map}
use Rattle.rdf_terms.specs.declared.graph.HashedPlace.{HashedPlace}
use Rattle.rdf_terms.specs.ObjectOrder.{place_cmp, places_in}
use Rattle.rdf_terms.proofs.Orders.{lt_or_le}
use Rattle.rdf_terms.proofs.ObjectPlaces.{place_cmp_total}
use Rattle.rdf_terms.proofs.Sets.{rising_of_neighbours}
use Rattle.rdf_terms.proofs.graph.do_rise_by_object.Goals as goal

abbrev none : HashedPlace
none = record { hash = 0; place = 0 }

pub neighbours-preserved : goal.neighbours-preserved
neighbours-preserved c = λ k d lt. by k d (lt_or_le (k + 1) c.neighbours.i) lt
  where
    at : (k d m : ℕ) → k ≡ m → m < length c.args.hashed.now → get_or (places_in c.args.hashed.now) k d ≡ (get_or c.args.hashed.now m none).place
    at k d m e lt = get_or-map (λ (at : HashedPlace). at.place) c.args.hashed.now k none d (omega arith) ∙ ap (λ j. (get_or c.args.hashed.now j none).place) e

    by : (k d : ℕ) → (k + 1 < c.neighbours.i) ⊎ (c.neighbours.i ≤ k + 1) → k + 1 < c.neighbours.i + 1 → place_cmp c.args.triples.now (get_or (places_in c.args.hashed.now) k d) (get_or (places_in c.args.hashed.now) (k + 1) d) ≡ Less
    by k d (inl l) lt = c.neighbours.invariant k d l
    by k d (inr le) lt =
        let within = c.neighbours-test.true in
        (λ n. place_cmp c.args.triples.now (at k d (c.neighbours.i - 1) (omega arith) (omega arith) n) (at (k + 1) d c.neighbours.i (omega arith) within n))
        ∙ c.is_before.ensures c.if-not-is_before.false

pub returns : goal.returns
returns c = λ h. rising_of_neighbours (place_cmp_total c.args.triples.now) (places_in c.args.hashed.now) (λ k d lt.
    let long = length-map c.args.hashed.now (λ (at : HashedPlace). at.place) in
    let end = c.neighbours-test.false in
    c.neighbours.invariant k d (omega arith))
