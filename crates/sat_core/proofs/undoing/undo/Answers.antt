use Rattle.std.proofs.Common.{rules, sym, subst, ap, ◌∙◌, ◌≤◌, length, take, ◌∷◌, []}
use Rattle.std.proofs.lemmas.List.{take-append-le}
use Rattle.literal_signs.specs.declared.sign.Sign.TheVariants.{Absent}
use Rattle.sat_core.specs.Kept.{AreSigned}
use Rattle.sat_core.proofs.Entries.{same_length}
use Rattle.sat_core.proofs.Cut.{undone}
use Rattle.sat_core.proofs.undoing.undo.Goals as goal

pub loop-trail-preserved-in-Some : goal.loop-trail-preserved-in-Some
loop-trail-preserved-in-Some c =
    let e = c.in-Some.ensures.items in
    let within : c.args.start ≤ length c.pop.new.self.items = search rules in
    record {
      within = within;
      trail = sym (take-append-le c.args.start c.pop.new.self.items (c.in-Some.entry ∷ []) within) ∙ ap (take c.args.start) (sym e) ∙ c.loop-trail.invariant.trail;
      signed = undone c.pop.new.self.items c.loop-trail.signs c.in-Some.entry (subst (λ t. AreSigned t c.loop-trail.signs) e c.loop-trail.invariant.signed);
      length = same_length c.loop-trail.signs c.in-Some.entry.lit.var Absent ∙ c.loop-trail.invariant.length;
    }
