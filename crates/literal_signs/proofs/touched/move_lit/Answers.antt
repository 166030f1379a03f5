use Rattle.std.proofs.Common.{refl, sym, ◌∙◌, ◌≡◌, true, false}
use Rattle.literal_signs.specs.Marked.{marked_set}
use Rattle.literal_signs.proofs.United.{erased}
use Rattle.literal_signs.proofs.touched.move_lit.Goals as goal

pub returns-then-not-marked-clause-ok : goal.returns-then-not-marked-clause-ok
returns-then-not-marked-clause-ok c =
    let off : marked_set c.args.signs.now c.args.lit ≡ false = sym c.is_marked-marked.ensures ∙ c.if-not-marked.true in
    rw off (refl, refl)

pub returns-clause-ok : goal.returns-clause-ok
returns-clause-ok c =
    let on : marked_set c.args.signs.now c.args.lit ≡ true = sym c.is_marked-marked.ensures ∙ c.if-not-marked.false in
    rw on (erased c.args.signs.now c.args.lit.var c.requires, c.in_ok-push.ensures.items)
