use Rattle.std.proofs.Common.{◌∷◌, [], ◌++◌, ap, ◌∙◌, sym, arith, ◌<◌, ◌≤◌, length}
use Rattle.atom_parts.specs.Sources.{listed_parts}
use Rattle.premise_rules.proofs.PlaceLaws.{last_begun, last_of_any, last_start, last_more, last_of_every, part_there}
use Rattle.premise_rules.proofs.place_clauses.last_clause.Goals as goal
use Rattle.premise_rules.proofs.place_clauses.last_clause.Goals.{in-Some+in_ok-push-2, in_default}

pub returns-then-not-every : goal.returns-then-not-every
returns-then-not-every c =
    let parts = listed_parts c.args.parts.now in
    let begun = last_begun c.args.atom parts.every c.every.result c.literal.result c.new-list.result c.push.new.self c.new-list.ensures c.every.ensures c.literal.ensures c.in_ok-push.ensures.ok in
    last_of_any c.args.atom parts.every parts.list c.push.new.self c.push_onto.new.list (sym c.every-2.ensures ∙ c.if-not-every.true) begun c.in_ok-push_onto.ensures

pub places-init : goal.places-init
places-init c =
    let parts = listed_parts c.args.parts.now in
    let begun = last_begun c.args.atom parts.every c.every.result c.literal.result c.new-list.result c.push.new.self c.new-list.ensures c.every.ensures c.literal.ensures c.in_ok-push.ensures.ok in
    last_start c.args.atom parts.every parts.list c.push.new.self (sym c.every-2.ensures ∙ c.if-not-every.false) begun

pub places-preserved : goal.places-preserved
places-preserved c =
    let parts = listed_parts c.args.parts.now in
    let below : c.places.place < length parts.list = let e = c.len-place-end.ensures in omega (arith, c.places-test.true, e) in
    elim c.match-get.branch [
      | in-Some+in_ok-push-2 w ↦
          last_more c.args.atom parts.list c.places.place w.in-Some.part c.places.list c.match-get.list c.places.invariant (sym w.in-Some.ensures)
          (w.list-is ∙ (w.in_ok-push-2.ensures.ok ∙ ap (λ p. c.places.list ++ p ∷ []) w.negation.ensures))
      | in_default w ↦
          absurd (part_there parts.list c.places.place below w.in_default.ensures)
    ]

pub returns : goal.returns
returns c =
    let parts = listed_parts c.args.parts.now in
    let end : length parts.list ≤ c.places.place = let e = c.len-place-end.ensures in omega (arith, c.places-test.false, e) in
    last_of_every c.args.atom parts.every parts.list c.places.place c.places.list (sym c.every-2.ensures ∙ c.if-not-every.false) end c.places.invariant
