use Rattle.std.proofs.Common.{refl, ap}
use Rattle.shelf_io.specs.Counted.{after_pull}
use Rattle.shelf_io.proofs.Places.{StandsAt, StandsNowhere, stands_first, changed_at, mapped_at, absent}
use Rattle.shelf_io.proofs.file_shelf.FileShelf.count.Goals as goal

pub returns-in-Some-clause-after : goal.returns-in-Some-clause-after
returns-in-Some-clause-after g c =
    let stands : StandsAt (λ counted. counted.word) c.deref.result.now c.self.inside.counts.items c.args.self.now c.args.name.now c.in-Some.i c.index_mut-count.result.now =
    record { place = c.in-Some.ensures; searched = c.deref.ensures.value; viewed = c.self.view_is; item = c.index_mut-count.ensures.value } in
    mapped_at stands (after_pull c.args.failed) (λ x. refl) c.count.new.self c.count.ensures.after

pub returns-in-Some-clause-later : goal.returns-in-Some-clause-later
returns-in-Some-clause-later g c =
    let stands : StandsAt (λ counted. counted.word) c.deref.result.now c.self.inside.counts.items c.args.self.now c.args.name.now c.in-Some.i c.index_mut-count.result.now =
    record { place = c.in-Some.ensures; searched = c.deref.ensures.value; viewed = c.self.view_is; item = c.index_mut-count.ensures.value } in
    let changed = changed_at stands c.count.new.self (ap (λ counted. counted.word) c.count.ensures.after) in
    rw (stands_first stands, changed.here) c.count.ensures.later

pub returns-in_default-clause-after : goal.returns-in_default-clause-after
returns-in_default-clause-after g c =
    let nowhere : StandsNowhere (λ counted. counted.word) c.deref.result.now c.self.inside.counts.items c.args.self.now c.args.name.now =
    record { place = c.in_default.ensures; searched = c.deref.ensures.value; viewed = c.self.view_is } in
    record { here = rw (absent nowhere); others = λ other ne. refl }
