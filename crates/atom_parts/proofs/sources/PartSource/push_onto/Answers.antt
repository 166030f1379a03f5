use Rattle.std.proofs.Common.{◌≤◌, ◌<◌, ◌++◌, length, take_all, true, sym, ap, ◌∙◌, arith}
use Rattle.repair_problem.specs.declared.atom.Part.TheVariants.{Fixed}
use Rattle.atom_parts.specs.Sources.{source_list}
use Rattle.atom_parts.proofs.PushedLists.{taken_next, never_missing}
use Rattle.atom_parts.proofs.sources.PartSource.push_onto.Goals as goal
use Rattle.atom_parts.proofs.sources.PartSource.push_onto.Goals.{in-Some+in_ok-push, in_default}

pub places-preserved : goal.places-preserved
places-preserved c =
    let all = source_list c.args.self.now in
    let l : c.places.place < length all = omega (arith, c.len-place-end.ensures, c.places-test.true) in
    elim c.match-get.branch [
      | in-Some+in_ok-push w ↦ w.list-is ∙ (w.in_ok-push.ensures.ok ∙ taken_next c.args.list.now c.places.list all c.places.place w.in-Some.part c.places.invariant (sym w.in-Some.ensures))
      | in_default w ↦ absurd (never_missing all c.places.place (Fixed true) l w.in_default.ensures)
    ]

pub returns : goal.returns
returns c =
    let all = source_list c.args.self.now in
    let l : length all ≤ c.places.place = omega (arith, c.len-place-end.ensures, c.places-test.false) in
    c.places.invariant ∙ ap (λ us. c.args.list.now ++ us) (take_all c.places.place all l)
