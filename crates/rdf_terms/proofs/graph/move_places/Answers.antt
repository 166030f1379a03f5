use Rattle.std.proofs.Common.{◌≡◌, ap, sym, ◌∙◌, ◌+◌, arith, ◌<◌, ◌≤◌, get_or, set}
use Rattle.rdf_terms.specs.ObjectOrder.{moved_place}
use Rattle.rdf_terms.proofs.ObjectPlaces.{moved_before, moved_after}
use Rattle.std.proofs.lemmas.List.{get_or_default}
use Rattle.std.proofs.lemmas.List.Edits.{map_over_more}
use Rattle.rdf_terms.proofs.graph.move_places.Goals as goal
use Rattle.rdf_terms.proofs.graph.move_places.Goals.{then-place-from, else-place-from}

pub moving-preserved : goal.moving-preserved
moving-preserved c =
    let x = get_or c.moving.places c.moving.place-index 0 in
    let lt = c.moving-test.true in
    elim c.if-place-from.branch [
      | then-place-from w ↦
          let h : c.args.from ≤ x = omega (arith, w.if-place-from.true) in
          let e : moved_place c.args.from x ≡ x + 1 = let m = moved_after c.args.from x h in omega arith in
          w.places-is ∙ ap (set c.moving.places c.moving.place-index) (sym e) ∙ map_over_more (moved_place c.args.from) c.args.places.now c.moving.places c.moving.place-index x (omega arith) c.moving.invariant (get_or_default c.moving.places c.moving.place-index 0 x (omega arith))
      | else-place-from w ↦
          let h : x < c.args.from = omega (arith, w.if-place-from.false) in
          let e : moved_place c.args.from x ≡ x = moved_before c.args.from x h in
          w.places-is ∙ ap (set c.moving.places c.moving.place-index) (sym e) ∙ map_over_more (moved_place c.args.from) c.args.places.now c.moving.places c.moving.place-index x (omega arith) c.moving.invariant (get_or_default c.moving.places c.moving.place-index 0 x (omega arith))
    ]
